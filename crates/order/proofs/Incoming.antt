-- The edges to each block are counted from edge 0 up. Assumes nothing.
use mathlib.Core.Path.{◌≡◌, refl, sym, ◌∙◌, ap}
use mathlib.Core.List.{List}
use Prim.Native.Nat.{ℕ, ◌+◌, ◌*◌, ◌≤◌, ◌<◌}
use native.Mathlib.Decide.{ℕ_discrete}
use native.Mathlib.Numerals.{add-one}
use native.Mathlib.Omega.{arith}
use lib.Dec.{eqb}
use lib.ListN.{length, get_or, set, replicate, get_or-replicate, length-set}
use lib.Seq.{get_or-set_same, get_or-set_other}
use borrow.Author.Tests.{eq-eqb, ne_eqb}
use Rattle.limits.specs.Limits.{most_blocks}
use Rattle.lists.specs.Search.{count_below}
use Rattle.lists.proofs.Search.{count_most}
use Rattle.wcet.specs.Table.{missing}
use Rattle.nesting.specs.Columns.{Names, Linked}
use Rattle.order.specs.Edges.{edge_target, Counted, one_more, Countable}
use Rattle.order.proofs.Edges.{edge_names}

pub counted_none : (ends : ℕ → ℕ) (n : ℕ) → n ≤ most_blocks → Counted ends n (replicate most_blocks 0) 0
unfolding count_below
counted_none ends n few = record { size = refl; each = λ v h. get_or-replicate most_blocks v 0 0 (omega arith) }

module _ (ends : ℕ → ℕ) (n : ℕ) (few : n ≤ most_blocks) (counts : List ℕ) (e : ℕ) (C : Counted ends n counts e) where
  countable : e < 65535 → (v : ℕ) → Names n v → Countable counts v
  countable l v names ne = (omega (arith, names ne), omega (arith, C.each v (names ne), count_most e (λ i. eqb (ends i) v)))

  -- edge e ends elsewhere
  away : (v : ℕ) → (ends e ≡ v → ⊥) → count_below e (λ i. eqb (ends i) v) ≡ count_below (e + 1) (λ i. eqb (ends i) v)
  unfolding count_below
  away v ne = rw (add-one e, ne_eqb (ends e) v ne) (omega arith)

  -- edge e ends at v, or nowhere
  counted_next : (v : ℕ) → v ≡ ends e → Names n v → Counted ends n (one_more counts v) (e + 1)
  unfolding count_below
  counted_next v there names = go (ℕ_discrete v missing)
    where
      more : List ℕ
      more = set counts v (get_or counts v 0 + 1)

      here : count_below e (λ i. eqb (ends i) v) + 1 ≡ count_below (e + 1) (λ i. eqb (ends i) v)
      here = rw (add-one e, eq-eqb (ends e) v (sym there))

      at : v < n → (u : ℕ) → u < n → Dec (u ≡ v) → get_or more u 0 ≡ count_below (e + 1) (λ i. eqb (ends i) u)
      at low u h (yes q) = rw (q, get_or-set_same counts v (get_or counts v 0 + 1) 0 (omega (arith, C.size))) (ap (λ (x : ℕ). x + 1) (C.each v low) ∙ here)
      at low u h (no ne) = rw (get_or-set_other counts v u (get_or counts v 0 + 1) 0 ne) (C.each u h ∙ away u (λ q. ne (sym q ∙ sym there)))

      go : Dec (v ≡ missing) → Counted ends n (one_more counts v) (e + 1)
      go (yes m) = rw (eq-eqb v missing m) (record { size = C.size; each = λ u h. C.each u h ∙ away u (λ q. omega arith) })
      go (no ne) = rw (ne_eqb v missing ne) (record { size = length-set counts v (get_or counts v 0 + 1) ∙ C.size; each = λ u h. at (names ne) u h (ℕ_discrete u v) })

-- edge e of the columns, which leads to v
module _ (sets loops firsts seconds headers : List ℕ) (L : Linked (length loops) firsts seconds) (counts : List ℕ) (e : ℕ) (b : e < 2 * length loops)
    (C : Counted (edge_target sets loops firsts seconds headers) (length loops) counts e) (v : ℕ) (there : v ≡ edge_target sets loops firsts seconds headers e) where
  names : Names (length loops) v
  names = rw there (edge_names sets loops firsts seconds headers e L b)

  pub edge_countable : Countable counts v
  edge_countable = countable _ _ L.few counts e C (omega (arith, L.few)) v names

  pub edge_counted : Counted (edge_target sets loops firsts seconds headers) (length loops) (one_more counts v) (e + 1)
  edge_counted = counted_next _ _ L.few counts e C v there names
