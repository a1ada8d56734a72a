-- Values stored one by one, a column filled, and what the columns of a reading leave in the lent ones.
-- Assumes nothing.
use Rattle.std.proofs.Common.{◌≡◌, ℕ, suc, ◌+◌, ◌≤◌, List, [], ◌∷◌, ◌++◌, length, take, drop, map, Result, Ok, Err, refl, sym, ap, ◌∙◌, zero-add, arith, set}
use lib.ListN.{length-map}
use lib.Seq.{sets, sets-eq, length-sets, length-take-le, take-append_seam}
use Rattle.tables.specs.Table.{End, all, refused, Reading}
use Rattle.tables.specs.Columns.{reply_by, reply_of, accepted_by, accepted, over}
use Rattle.tables.specs.Place.{stores, Gathered, gathered, leaving}
use Rattle.tables.specs.declared.Rows.{Rows}
use Rattle.tables.specs.declared.ReadFault.{ReadFault}

over_is : {A : Type 0} (vs column : List A) → length vs ≤ length column → over vs column ≡ vs ++ drop (length vs) column
unfolding over
over_is [] column h = refl
over_is (v ∷ vs) [] h = absurd (omega arith)
over_is {A} (v ∷ vs) (c ∷ column) h = ap (λ (l : List A). v ∷ l) (over_is vs column (omega arith))

pub filled : {A : Type 0} (column values : List A) (count : ℕ) {w : List A} → count ≤ length values → count ≤ length column → w ≡ take count values → w ++ drop count column ≡ over (take count values) column
filled column values count l h e =
    let n : length (take count values) ≡ count = length-take-le count values l in
    let m : length (take count values) ≤ length column = omega arith in
    rw e (sym (over_is (take count values) column m ∙ rw n))

-- the column f of columns into which rows were stored
pub column_stored : {A B C : Type 0} (store : C → ℕ → A → C) (column : C → List B) (f : A → B) → ((c : C) (k : ℕ) (w : A) → column (store c k w) ≡ set (column c) k (f w)) → (c : C) (k : ℕ) (ws : List A) → column (stores store c k ws) ≡ sets (column c) k (map f ws)
unfolding stores
column_stored store column f h c k [] = refl
column_stored store column f h c k (w ∷ ws) = column_stored store column f h (store c k w) (suc k) ws ∙ ap (λ (l : _). sets l (suc k) (map f ws)) (h c k w)

-- What a pass over a text leaves in its columns.
module _ {A C : Type 0} (store : C → ℕ → A → C) (none : C) (x : Reading A) {r : Result Rows ReadFault} {columns : C} (q : leaving r columns ≡ gathered store none 0 x) where
  columns_are : columns ≡ stores store none 0 x.rows
  columns_are = ap (λ (g : Gathered C). g.columns) q

  module _ {B : Type 0} (column : C → List B) (f : A → B) (h : (c : C) (k : ℕ) (w : A) → column (store c k w) ≡ set (column c) k (f w)) where
    column_is : column columns ≡ sets (column none) 0 (map f x.rows)
    column_is = ap column columns_are ∙ column_stored store column f h none 0 x.rows

    pub column_length : length (column columns) ≡ length (column none)
    column_length = ap length column_is ∙ length-sets (column none) 0 (map f x.rows)

-- What a reader leaves where the pass gave x, with a reply for which it fills the lent columns.
module _ {A C : Type 0} (store : C → ℕ → A → C) (none : C) (x : Reading A) (room : ℕ) (fit : length x.rows ≤ room) {r : Result Rows ReadFault} {columns : C} (q : leaving r columns ≡ gathered store none 0 x) where
  pub reply_is : r ≡ reply_of x
  reply_is = ap (λ (g : Gathered C). g.reply) q ∙ rw (zero-add (length x.rows))

  module _ (rows : Rows) (e : r ≡ Ok rows) where
    known : (rows.count ≡ length x.rows) × (accepted x ≡ x.rows)
    known = go x.end (sym reply_is ∙ e)
      where
        go : (y : End) → reply_by (length x.rows) y ≡ Ok rows → (rows.count ≡ length x.rows) × (accepted_by x.rows y ≡ x.rows)
        go (all ending) g = (ap (λ (w : Rows). w.count) (let z : rows ≡ record { count = length x.rows; ending = ending } = cc in z), refl)
        go (refused fault) g = absurd (cc)

    pub count_fits : rows.count ≤ room
    count_fits = omega (arith, known.0)

    -- a column that has at least `room` places
    pub column_left : {B : Type 0} (column : C → List B) (f : A → B) → ((c : C) (k : ℕ) (w : A) → column (store c k w) ≡ set (column c) k (f w)) → room ≤ length (column none) → (old : List B) {new : List B} → new ≡ over (take rows.count (column columns)) old → new ≡ over (map f (accepted x)) old
    column_left {B} column f h l old {new} g = g ∙ ap (λ (vs : List B). over vs old) (rw (column_is store none x q column f h, known.0, known.1) taken)
      where
        n : length (map f x.rows) ≡ length x.rows
        n = length-map x.rows f

        stored : sets (column none) 0 (map f x.rows) ≡ map f x.rows ++ drop (0 + length (map f x.rows)) (column none)
        stored = sets-eq (map f x.rows) (column none) 0 (rw (n, zero-add) (omega arith))

        taken : take (length x.rows) (sets (column none) 0 (map f x.rows)) ≡ map f x.rows
        taken = rw (stored, ← n) (take-append_seam (map f x.rows) (drop (0 + length (map f x.rows)) (column none)))

  module _ (fault : ReadFault) (e : r ≡ Err fault) where
    -- a refusal leaves each column
    pub column_kept : {B : Type 0} (f : A → B) (old : List B) → old ≡ over (map f (accepted x)) old
    unfolding over
    column_kept f old = rw none_accepted
      where
        none_accepted : accepted x ≡ []
        none_accepted = go x.end (sym reply_is ∙ e)
          where
            go : (y : End) → reply_by (length x.rows) y ≡ Err fault → accepted_by x.rows y ≡ []
            go (all ending) g = absurd (cc)
            go (refused f) g = refl
