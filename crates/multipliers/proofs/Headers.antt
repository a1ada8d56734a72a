-- The weights of a routine, depth by depth: none at the headers of the loops whose multipliers are not made yet. Assumes nothing.
use Rattle.std.proofs.Common.{◌≡◌, refl, sym, ◌∙◌, ap, Bool, true, false, not, ◌&&◌, true≢false, List, [], ℕ, ◌+◌, ◌*◌, ◌-◌, ◌≤◌, ◌<◌, arith, eqb, ltb, ℤ, pos, negsuc, length, get_or}
use mathlib.Core.Option.{Option, none, some, none-ne-some, some-injective}
use native.Mathlib.Decide.{ℕ_discrete}
use borrow.Author.Tests.{eqb-true, eqb-false, eq-eqb, ltb-true, ltb-false, lt-ltb, le-ltb}
use Rattle.lists.specs.Search.{when◌then◌else◌}
use Rattle.wcet.specs.Table.{Routine, block_count, loop_count, cost, loop_of, header, limit, is_header}
use Rattle.wcet.specs.Rules.{structure_rules}
use Rattle.wcet.specs.Claim.{AllHold}
use Rattle.wcet.proofs.Nesting.{Nested, nested}
use Rattle.nesting.specs.Columns.{Ranged}
use Rattle.nesting.proofs.Stages.{headed}
use Rattle.levels.specs.Levels.{depth}
use Rattle.levels.proofs.Laws.{depth_least, depth_one}
use Rattle.optimum.specs.Remade.{with_columns}
use Rattle.optimum.specs.Tails.{weight}
use Rattle.tails.specs.Words.{no_tail, word_of}
use Rattle.tails.specs.Passes.{closed, Weights}
use Rattle.multipliers.specs.Columns.{HeadersClosed, RoundsTaken}

-- ---- words

pub word_more : (a : ℕ) → word_of (pos a) ≡ some a
unfolding word_of
word_more a = refl

pub no_tail_lem : word_of no_tail ≡ none
unfolding word_of
no_tail_lem = refl

pub word_some : (w : ℤ) (a : ℕ) → word_of w ≡ some a → w ≡ pos a
unfolding word_of
word_some (pos k) a e = ap pos (some-injective k a e)
word_some (negsuc k) a e = absurd (none-ne-some a e)

-- ---- depths

less_deep : (d k : ℕ) → 1 ≤ d → (k ≡ d → ⊥) → ltb (d - 1) k ≡ ltb d k
less_deep d k p ne = go (ltb d k) refl
  where
    go : (b : Bool) → ltb d k ≡ b → ltb (d - 1) k ≡ b
    go true q = lt-ltb (d - 1) k (omega (arith, ltb-true d k q))
    go false q = le-ltb (d - 1) k (omega (arith, ltb-false d k q))

module _ (t : Routine) (rules : AllHold (structure_rules t)) where
  abbrev N : Nested t
  N = nested t rules

  abbrev R : Ranged t
  R = (headed t rules).ranged

  abbrev deep_of : ℕ → ℕ
  deep_of k = depth t.parents k

  abbrev with : List ℕ → Routine
  with ks = with_columns t [] ks

  in_headers : (l : ℕ) → l < loop_count t → l < length t.headers
  in_headers l b = omega (arith, R.sized.headers)

  -- the header of loop l is the header of its innermost loop
  of_header : (l x : ℕ) → l < loop_count t → header t l ≡ x → loop_of t x ≡ l
  of_header l x b q = ap (loop_of t) (sym q) ∙ N.own l b

  is_header_lem : (l x : ℕ) → l < loop_count t → header t l ≡ x → is_header t x ≡ true
  is_header_lem l x b q = eq-eqb (header t (loop_of t x)) x (ap (header t) (of_header l x b q) ∙ q)

  -- ---- one depth less

  closed_same : (ks ks' : List ℕ) (d x : ℕ) → 1 ≤ d → (is_header t x ≡ true → (loop_of t x ≡ 0 → ⊥) → deep_of (loop_of t x) ≡ d → ⊥)
      → closed (with ks') (d - 1) x ≡ closed (with ks) d x
  unfolding closed
  closed_same ks ks' d x p ne = go (is_header t x) (eqb (loop_of t x) 0) refl refl
    where
      go : (h z : Bool) → is_header t x ≡ h → eqb (loop_of t x) 0 ≡ z
          → (h && not z && not (ltb (d - 1) (deep_of (loop_of t x)))) ≡ (h && not z && not (ltb d (deep_of (loop_of t x))))
      go false z a b = refl
      go true true a b = refl
      go true false a b = ap not (less_deep d (deep_of (loop_of t x)) p (ne a (eqb-false (loop_of t x) 0 b)))

  weight_same : (ks ks' : List ℕ) (x : ℕ) → (is_header t x ≡ true → get_or ks' (loop_of t x) 0 ≡ get_or ks (loop_of t x) 0) → weight (with ks') x ≡ weight (with ks) x
  unfolding weight
  weight_same ks ks' x same = go (is_header t x) refl
    where
      go : (h : Bool) → is_header t x ≡ h
          → (when h then cost t x + get_or ks' (loop_of t x) 0 * (limit t (loop_of t x) - 1) else cost t x) ≡ (when h then cost t x + get_or ks (loop_of t x) 0 * (limit t (loop_of t x) - 1) else cost t x)
      go true h = rw (same h) refl
      go false h = refl

  -- ---- the first weights

  pub weights_first : (made : List ℕ) (weights : List ℤ) (d : ℕ) → ((l : ℕ) → get_or made l 0 ≡ 0) → ((l : ℕ) → l < loop_count t → deep_of l ≤ d)
      → HeadersClosed t.costs t.headers weights → Weights (with made) d weights
  weights_first made weights d zero most C = record { says = λ x b. unfold closed weight in says x b (is_header t x) (eqb (loop_of t x) 0) refl refl }
    where
      says : (x : ℕ) → x < block_count t → (h z : Bool) → is_header t x ≡ h → eqb (loop_of t x) 0 ≡ z
          → word_of (get_or weights x (pos 0))
          ≡ (when (h && not z && not (ltb d (deep_of (loop_of t x)))) then none else some (when h then cost t x + get_or made (loop_of t x) 0 * (limit t (loop_of t x) - 1) else cost t x))
      says x b false z a e = ap word_of (C.plain x b (λ l p c q. true≢false (sym (is_header_lem l x (omega (arith, R.sized.headers)) q) ∙ a))) ∙ word_more (cost t x)
      says x b true true a e =
          let m : cost t x + 0 * (limit t (loop_of t x) - 1) ≡ cost t x = omega arith in
          rw (zero (loop_of t x), m)
          (ap word_of (C.plain x b (λ l p c q. let o : loop_of t x ≡ l = of_header l x (omega (arith, R.sized.headers)) q in omega (arith, o, eqb-true (loop_of t x) 0 e))) ∙ word_more (cost t x))
      says x b true false a e =
          let k = loop_of t x in
          let c : k < loop_count t = N.innermost x b in
          let w : get_or weights (header t k) (pos 0) ≡ no_tail = C.closed k (omega (arith, eqb-false k 0 e)) (in_headers k c) in
          rw (le-ltb d (deep_of k) (most k c)) (ap word_of (rw (eqb-true (header t k) x a) at w) ∙ no_tail_lem)

  -- ---- the next weights

  module _ (d : ℕ) (deep : 1 < d) (kept : List ℤ) (depths made : List ℕ) (weights : List ℤ) (made' : List ℕ) (weights' : List ℤ) (same : (l : ℕ) → l < loop_count t → get_or depths l 0 ≡ deep_of l)
      (W : Weights (with made) d weights) (T : RoundsTaken kept t.costs t.headers t.limits depths d made weights false made' weights') where
    apart : (k l : ℕ) → k < length t.headers → l < length t.headers → header t k ≡ header t l → k ≡ l
    apart k l a b q = sym (of_header k (header t l) (omega (arith, R.sized.headers)) q) ∙ N.own l (omega (arith, R.sized.headers))

    taken_weight : (x : ℕ) → x < block_count t → is_header t x ≡ true → deep_of (loop_of t x) ≡ d → word_of (get_or weights' x (pos 0)) ≡ (when closed (with made') (d - 1) x then none else some (weight (with made') x))
    unfolding closed weight
    taken_weight x b h o =
        let k = loop_of t x in
        let c : k < loop_count t = N.innermost x b in
        let e : get_or weights' (header t k) (pos 0) ≡ pos (cost t (header t k) + get_or made' k 0 * (limit t k - 1)) = T.weighed refl apart k (in_headers k c) (same k c ∙ o) in
        let f : get_or weights' x (pos 0) ≡ pos (cost t x + get_or made' k 0 * (limit t k - 1)) = rw (eqb-true (header t k) x h) at e in
        rw (h, lt-ltb (d - 1) (deep_of k) (omega (arith, o))) (go (not (eqb k 0)) (ap word_of f ∙ word_more (cost t x + get_or made' k 0 * (limit t k - 1))))
      where
        go : {o : Option ℕ} {w : Option ℕ} → (z : Bool) → w ≡ o → w ≡ (when z && false then none else o)
        go true e = e
        go false e = e

    other_weight : (x : ℕ) → x < block_count t → (is_header t x ≡ true → deep_of (loop_of t x) ≡ d → ⊥) → word_of (get_or weights' x (pos 0)) ≡ (when closed (with made') (d - 1) x then none else some (weight (with made') x))
    other_weight x b ne =
        let e : get_or weights' x (pos 0) ≡ get_or weights x (pos 0) = T.other_weights refl x (λ l a o q. let c : l < loop_count t = omega (arith, R.sized.headers) in ne (is_header_lem l x c q) (ap deep_of (of_header l x c q) ∙ sym (same l c) ∙ o)) in
        rw (closed_same made made' d x (omega arith) (λ h z o. ne h o), weight_same made made' x (λ h. T.others refl (loop_of t x) (λ o. ne h (sym (same (loop_of t x) (N.innermost x b)) ∙ o))))
        (ap word_of e ∙ W.says x b)

    pub weights_next : Weights (with made') (d - 1) weights'
    weights_next = record { says = λ x b. go x b (is_header t x) refl (ℕ_discrete (deep_of (loop_of t x)) d) }
      where
        go : (x : ℕ) → x < block_count t → (h : Bool) → is_header t x ≡ h → Dec (deep_of (loop_of t x) ≡ d) → word_of (get_or weights' x (pos 0)) ≡ (when closed (with made') (d - 1) x then none else some (weight (with made') x))
        go x b true h (yes o) = taken_weight x b h o
        go x b true h (no ne) = other_weight x b (λ a o. ne o)
        go x b false h o = other_weight x b (λ a. absurd (true≢false (sym a ∙ h)))

  -- ---- the last weights

  -- only loop 0 has depth 1
  pub weights_one : (made : List ℕ) (weights : List ℤ) → Weights (with made) 1 weights → Weights (with made) 0 weights
  weights_one made weights W = record {
    says = λ x b. rw (closed_same made made 1 x (omega arith) (λ h z o. z (depth_one t.parents R.parents (loop_of t x) (N.innermost x b) o))) (W.says x b);
  }

  none_closed : (h z : Bool) → (h && z && false) ≡ false
  none_closed true true = refl
  none_closed true false = refl
  none_closed false z = refl

  not_closed : (ks : List ℕ) (x : ℕ) → closed (with ks) 0 x ≡ false
  unfolding closed
  not_closed ks x = rw (lt-ltb 0 (deep_of (loop_of t x)) (depth_least t.parents R.parents (loop_of t x))) (none_closed (is_header t x) (not (eqb (loop_of t x) 0)))

  pub weights_last : (made ks : List ℕ) (weights : List ℤ) → Weights (with made) 0 weights → ((l : ℕ) → l < loop_count t → get_or made l 0 ≡ get_or ks l 0)
      → (x : ℕ) → x < block_count t → get_or weights x (pos 0) ≡ pos (weight (with ks) x)
  weights_last made ks weights W same x b =
      word_some (get_or weights x (pos 0)) (weight (with ks) x) (rw (not_closed made x, weight_same ks made x (λ h. same (loop_of t x) (N.innermost x b))) at (W.says x b))
