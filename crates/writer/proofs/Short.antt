-- The numbers of a column, and of the right side, without looking at every row. Assumes nothing.
use Rattle.std.proofs.Common.{◌≡◌, refl, sym, ◌∙◌, ap, Bool, true, false, cond, not, List, [], ◌∷◌, ◌++◌, map, append-nil, ℕ, zero, suc, ◌+◌, ◌-◌, ◌<◌, ◌≤◌, arith, eqb, ltb, ℤ, pos, negsuc, ◌-ℤ◌, ltb-true, ltb-false, ne_eqb, eq-eqb}
use native.Mathlib.Decide.{ℕ_discrete}
use Rattle.lists.specs.Search.{when◌then◌else◌}
use Rattle.wcet.specs.Table.{Routine, block_count, loop_count, exit, edge, loop_of, header}
use Rattle.wcet.proofs.Nesting.{Nested}
use Rattle.mps.specs.Program.{Entry, RowName, objective, block, loop, numbers_from, keep, rows_of, one, number, right_side, is_zero, entries_of}

-- a number in a row, where it is not 0
abbrev pub entry_in : RowName → ℤ → List (Entry RowName)
entry_in r x = when is_zero x then [] else record { row = r; number = x } ∷ []

-- 1 in the row of u and −1 in that of v, the lower first
abbrev pub plus : ℕ → Entry RowName
plus u = record { row = block u; number = pos 1 }

abbrev pub minus : ℕ → Entry RowName
minus v = record { row = block v; number = negsuc 0 }

unfoldable pub block_entries : (u v : ℕ) → List (Entry RowName)
block_entries u v = when ltb u v then plus u ∷ minus v ∷ [] else when ltb v u then minus v ∷ plus u ∷ [] else []

entries_first : (f : RowName → ℤ) (r : RowName) (rows : List RowName) → entries_of f (r ∷ rows) ≡ entry_in r (f r) ++ entries_of f rows
unfolding entries_of keep
entries_first f r rows = go (is_zero (f r))
  where
    go : (z : Bool) → cond (not z) (record { row = r; number = f r } ∷ entries_of f rows) (entries_of f rows) ≡ cond z [] (record { row = r; number = f r } ∷ []) ++ entries_of f rows
    go true = refl
    go false = refl

entries_append : (f : RowName → ℤ) (xs ys : List RowName) → entries_of f (xs ++ ys) ≡ entries_of f xs ++ entries_of f ys
unfolding entries_of keep
entries_append f [] ys = refl
entries_append f (r ∷ xs) ys = go (is_zero (f r)) (entries_append f xs ys)
  where
    e : Entry RowName
    e = record { row = r; number = f r }

    go : (z : Bool) → entries_of f (xs ++ ys) ≡ entries_of f xs ++ entries_of f ys
        → cond (not z) (e ∷ entries_of f (xs ++ ys)) (entries_of f (xs ++ ys)) ≡ cond (not z) (e ∷ entries_of f xs) (entries_of f xs) ++ entries_of f ys
    go true ih = ih
    go false ih = ap (λ (s : List (Entry RowName)). e ∷ s) ih

-- over the rows of consecutive numbers, of which all but one or two are 0
module _ (f : RowName → ℤ) (g : ℕ → RowName) where
  abbrev Zero : ℕ → Type 0
  Zero i = is_zero (f (g i)) ≡ true

  abbrev here : ℕ → List (Entry RowName)
  here i = entry_in (g i) (f (g i))

  entries_none : (k a : ℕ) → ((i : ℕ) → a ≤ i → i < a + k → Zero i) → entries_of f (map g (numbers_from a k)) ≡ []
  unfolding entries_of keep numbers_from
  entries_none zero a z = refl
  entries_none (suc k) a z = rw (z a (omega arith) (omega arith)) (entries_none k (suc a) (λ i p q. z i (omega arith) (omega arith)))

  entries_at : (i k a : ℕ) → a ≤ i → i < a + k → ((j : ℕ) → a ≤ j → j < a + k → (j ≡ i → ⊥) → Zero j) → entries_of f (map g (numbers_from a k)) ≡ here i
  unfolding numbers_from
  entries_at i zero a p q z = absurd (omega arith)
  entries_at i (suc k) a p q z =
      entries_first f (g a) (map g (numbers_from (suc a) k)) ∙ go (ℕ_discrete a i) (λ l. entries_at i k (suc a) l (omega arith) (λ j c b. z j (omega arith) (omega arith)))
    where
      go : Dec (a ≡ i) → (suc a ≤ i → entries_of f (map g (numbers_from (suc a) k)) ≡ here i) → here a ++ entries_of f (map g (numbers_from (suc a) k)) ≡ here i
      go (yes e) ih = rw (entries_none k (suc a) (λ j c d. z j (omega arith) (omega arith) (λ y. omega arith)), e) (append-nil (here i))
      go (no e) ih = rw (z a (omega arith) (omega arith) e) (ih (omega arith))

  entries_two : (i j k a : ℕ) → a ≤ i → i < j → j < a + k → ((l : ℕ) → a ≤ l → l < a + k → (l ≡ i → ⊥) → (l ≡ j → ⊥) → Zero l) → entries_of f (map g (numbers_from a k)) ≡ here i ++ here j
  unfolding numbers_from
  entries_two i j zero a p q r z = absurd (omega arith)
  entries_two i j (suc k) a p q r z =
      entries_first f (g a) (map g (numbers_from (suc a) k)) ∙ go (ℕ_discrete a i) (λ l. entries_two i j k (suc a) l q (omega arith) (λ j c b. z j (omega arith) (omega arith)))
    where
      go : Dec (a ≡ i) → (suc a ≤ i → entries_of f (map g (numbers_from (suc a) k)) ≡ here i ++ here j) → here a ++ entries_of f (map g (numbers_from (suc a) k)) ≡ here i ++ here j
      go (yes e) ih = rw (entries_at j k (suc a) (omega arith) (omega arith) (λ l c d x. z l (omega arith) (omega arith) (λ y. omega arith) x), e)
      go (no e) ih = rw (z a (omega arith) (omega arith) e (λ y. omega arith)) (ih (omega arith))

-- the rows of the blocks
no_difference : (b : Bool) → is_zero (one b -ℤ one b) ≡ true
no_difference true = refl
no_difference false = refl

module _ (t : Routine) (u v : ℕ) (u<n : u < block_count t) (v<n : v < block_count t) where
  source_row : (v ≡ u → ⊥) → number t u v (block u) ≡ pos 1
  unfolding number
  source_row ne = rw (eq-eqb u u refl, ne_eqb v u ne)

  target_row : (u ≡ v → ⊥) → number t u v (block v) ≡ negsuc 0
  unfolding number
  target_row ne = rw (ne_eqb u v ne, eq-eqb v v refl)

  self_row : u ≡ v → (b : ℕ) → is_zero (number t u v (block b)) ≡ true
  unfolding number
  self_row e b = rw e (no_difference (eqb v b))

  other_row : (b : ℕ) → (b ≡ u → ⊥) → (b ≡ v → ⊥) → is_zero (number t u v (block b)) ≡ true
  unfolding number
  other_row b x y = rw (ne_eqb u b (λ z. x (sym z)), ne_eqb v b (λ z. y (sym z)))

  pub short_blocks : entries_of (number t u v) (map block (numbers_from 0 (block_count t))) ≡ block_entries u v
  unfolding block_entries
  short_blocks = go (ltb u v) (ltb v u) refl refl
    where
      go : (a b : Bool) → ltb u v ≡ a → ltb v u ≡ b
          → entries_of (number t u v) (map block (numbers_from 0 (block_count t))) ≡ cond a (plus u ∷ minus v ∷ []) (cond b (minus v ∷ plus u ∷ []) [])
      go true b p q =
          let less : u < v = ltb-true u v p in
          entries_two (number t u v) block u v (block_count t) 0 (omega arith) less (omega arith) (λ b c l. other_row b) ∙ rw (source_row (λ z. omega arith), target_row (λ z. omega arith))
      go false true p q =
          let more : v < u = ltb-true v u q in
          entries_two (number t u v) block v u (block_count t) 0 (omega arith) more (omega arith) (λ b c l x y. other_row b y x) ∙ rw (source_row (λ z. omega arith), target_row (λ z. omega arith))
      go false false p q = entries_none (number t u v) block (block_count t) 0 (λ i c l. self_row (omega (arith, ltb-false u v p, ltb-false v u q)) i)

-- the rows of the loops: of all loops, v can be the header of its innermost only (204), and no edge leads to the header of loop 0 (206)
module _ (t : Routine) (N : Nested t) (u v : ℕ) (u<n : u < block_count t) (there : edge t u v ≡ true) where
  abbrev own : ℕ
  own = loop_of t v

  other_loop : (l : ℕ) → l < loop_count t → (l ≡ own → ⊥) → is_zero (number t u v (loop l)) ≡ true
  unfolding number
  other_loop l b ne = rw (ne_eqb (header t l) v (λ e. ne (sym (N.own l b) ∙ ap (loop_of t) e)))

  no_row : is_zero (number t u v (loop 0)) ≡ true
  unfolding number
  no_row = rw (ne_eqb (header t 0) v (λ e. N.entry_starts u u<n (rw (sym e ∙ N.loop0_header) at there)))

  short_loops : entries_of (number t u v) (map loop (numbers_from 1 (loop_count t - 1))) ≡ entry_in (loop own) (number t u v (loop own))
  short_loops = go (ℕ_discrete own 0)
    where
      below : (i : ℕ) → i < 1 + (loop_count t - 1) → i < loop_count t
      below i q = omega (arith, N.some_loop)

      go : Dec (own ≡ 0) → entries_of (number t u v) (map loop (numbers_from 1 (loop_count t - 1))) ≡ entry_in (loop own) (number t u v (loop own))
      go (yes z) = entries_none (number t u v) loop (loop_count t - 1) 1 (λ i p q. other_loop i (below i q) (λ y. omega arith)) ∙ rw (z, no_row)
      go (no z) = entries_at (number t u v) loop own (loop_count t - 1) 1 (omega arith) (omega (arith, N.innermost v (N.target u v u<n there))) (λ j p q. other_loop j (below j q))

  -- THEOREM: the numbers of an edge are those in COST, in the rows of its two blocks, the lower first, and in the row of its target's loop.
  pub short_column : entries_of (number t u v) (rows_of t) ≡ entry_in objective (number t u v objective) ++ (block_entries u v ++ entry_in (loop (loop_of t v)) (number t u v (loop (loop_of t v))))
  unfolding rows_of
  short_column =
      entries_first (number t u v) objective (map block (numbers_from 0 (block_count t)) ++ map loop (numbers_from 1 (loop_count t - 1)))
      ∙ rw (entries_append (number t u v) (map block (numbers_from 0 (block_count t))) (map loop (numbers_from 1 (loop_count t - 1))), short_blocks t u v u<n (N.target u v u<n there), short_loops)

-- ---- the right side

module _ (t : Routine) (h : 2 ≤ block_count t) where
  right_entry : right_side t (block 0) ≡ pos 1
  unfolding right_side
  right_entry = rw (ne_eqb 0 (exit t) (λ z. omega arith))

  right_exit : right_side t (block (exit t)) ≡ negsuc 0
  unfolding right_side
  right_exit = rw (ne_eqb (exit t) 0 (λ z. omega arith), eq-eqb (exit t) (exit t) refl)

  right_other : (b : ℕ) → (b ≡ 0 → ⊥) → (b ≡ exit t → ⊥) → is_zero (right_side t (block b)) ≡ true
  unfolding right_side
  right_other b x y = rw (ne_eqb b 0 x, ne_eqb b (exit t) y)

  right_none : (i : ℕ) → is_zero (right_side t (loop i)) ≡ true
  unfolding right_side
  right_none i = refl

  right_cost : entry_in objective (right_side t objective) ≡ []
  unfolding right_side
  right_cost = refl

  pub short_right : entries_of (right_side t) (rows_of t) ≡ plus 0 ∷ minus (exit t) ∷ []
  unfolding rows_of
  short_right =
      entries_first (right_side t) objective (map block (numbers_from 0 (block_count t)) ++ map loop (numbers_from 1 (loop_count t - 1)))
      ∙ rw (
        right_cost,
        entries_append (right_side t) (map block (numbers_from 0 (block_count t))) (map loop (numbers_from 1 (loop_count t - 1))),
        entries_two (right_side t) block 0 (exit t) (block_count t) 0 (omega arith) (omega arith) (omega arith) (λ b c l. right_other b),
        entries_none (right_side t) loop (loop_count t - 1) 1 (λ i p q. right_none i),
        right_entry,
        right_exit,
      )
