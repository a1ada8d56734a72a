-- The parts of the declarations, by what was found at their places. Assumes nothing.
use Rattle.std.proofs.Common.{◌≡◌, refl, sym, ◌∙◌, Bool, true, false, cond, ◌||◌, List, ℕ, ◌+◌, ◌-◌, ◌<◌, ◌≤◌, Option, Some, None, Result, Ok, Err, ok_or, length, take, drop, arith}
use Rattle.lists.specs.Bytes.{bytes, same}
use Rattle.vcd.specs.Words.{size, word_of}
use Rattle.vcd.specs.Syntax.{is_code, is_declaration, declaration, text, remark, command, on, bad, declaration_step, variable_step, after, Reading, stopped, reading, reading_of}
use Rattle.words.specs.Places.{next_start, TextEnds}
use Rattle.words.specs.declared.Word.{Word}
use Rattle.words.proofs.Starts.{no_more, part_ends, part_moves, word_then, Begins, word_starts}
use Rattle.words.proofs.Skips.{resumed_at, skipped_at, end_within}
use Rattle.commands.specs.Reads.{reading_from, code_at}
use Rattle.commands.specs.declared.BadWord.{BadWord}
use Rattle.commands.specs.declared.Code.{Code}
use Rattle.commands.proofs.Values.{Coded, not_coded, coded}
use Rattle.declarations.specs.Reads.{Within, WordRead, CodeMoves, CodeRead, VariableRead, Answer, Moves, Follows, TextRead, VariableEnds, DefinitionsEnd, DeclarationRead, BodyRead}
use Rattle.declarations.specs.declared.Declaration.TheVariants.{On, Body}

-- a refusal at a place
abbrev pub bad_at : {A : Type 0} → ℕ → Result A BadWord
bad_at place = Err (record { 0 = place })

-- ---- the words of $var

module _ (s : List ℕ) (at : ℕ) {r : Option Word} (q : r ≡ next_start s at) where
  pub plain_missing : r ≡ None → WordRead s at (bad_at (length s))
  unfolding reading
  plain_missing e = record { reads = λ named before declared n. rw (no_more s at q e); moves = tt }

  module _ (w : Word) (to : ℕ) (e : r ≡ Some w) (t : to ≡ w.from + size (drop w.from s)) {f : Bool} (o : f ≡ same (take (to - w.from) (drop w.from s)) (bytes "$end")) where
    pub plain_end : f ≡ true → WordRead s at (bad_at w.from)
    unfolding reading variable_step
    plain_end y = record { reads = λ named before declared n. rw (word_then s at q w to e t, n, sym o ∙ y); moves = tt }

    pub plain_on : f ≡ false → WordRead s at (Ok to)
    unfolding reading variable_step
    plain_on y = record { reads = λ named before declared n. rw (word_then s at q w to e t, n, sym o ∙ y); moves = (part_moves s at q w to e t, part_ends s at q w to e t) }

module _ (named s : List ℕ) (at : ℕ) {r : Option Word} (q : r ≡ next_start s at) where
  pub code_missing : r ≡ None → CodeRead named s at (bad_at (length s))
  unfolding reading
  code_missing e = record { reads = λ declared. rw (no_more s at q e); moves = tt }

  module _ (w : Word) (e : r ≡ Some w) {o : Option Code} (p : o ≡ code_at named s w.from) where
    begins : Begins s at w.from w.first
    begins = word_starts s at q w e

    pub code_read : {x : Result Code BadWord} → x ≡ ok_or o (record { 0 = w.from }) → CodeRead named s at x
    unfolding reading variable_step
    code_read {x} f = go o refl
      where
        found : (c : Code) → Coded named s w.from c → CodeRead named s at (Ok c)
        found c k = record { reads = λ declared. rw (begins.is, k.is_code_lem, k.is_named, k.after); moves = (omega (arith, begins.low, begins.some, k.after), omega (arith, begins.within, k.after)) }

        missing : is_code (word_of (drop w.from s)) ≡ false → CodeRead named s at (bad_at w.from)
        missing n = record { reads = λ declared. rw (begins.is, n); moves = tt }

        go : (u : Option Code) → o ≡ u → CodeRead named s at x
        go None h = rw (f, h) (missing (not_coded named s w.from p h))
        go (Some c) h = rw (f, h) (found c (coded named s w.from p c h))

code_sooner : (s : List ℕ) (low high : ℕ) (r : Result Code BadWord) → low ≤ high → CodeMoves s high r → CodeMoves s low r
code_sooner s low high (Ok c) h m = (omega (arith, m.0), m.1)
code_sooner s low high (Err e) h m = tt

module _ (named s : List ℕ) (at : ℕ) {w : Result ℕ BadWord} (p : WordRead s at w) where
  pub first_bad : (e : BadWord) → w ≡ Err e → VariableRead named s at (Err e)
  first_bad e f = record { reads = λ declared. p.reads named 2 declared refl ∙ rw f; moves = tt }

  module _ (second : ℕ) (e : w ≡ Ok second) {v : Result ℕ BadWord} (o : WordRead s second v) where
    moves : Within s at second
    moves = rw e at p.moves

    pub second_bad : (y : BadWord) → v ≡ Err y → VariableRead named s at (Err y)
    second_bad y f = record { reads = λ declared. p.reads named 2 declared refl ∙ rw e (o.reads named 1 declared refl ∙ rw f); moves = tt }

    pub third_read : (third : ℕ) → v ≡ Ok third → {r : Result Code BadWord} → CodeRead named s third r → VariableRead named s at r
    third_read third f {r} c =
        let m : Within s second third = rw f at o.moves in
        record { reads = λ declared. p.reads named 2 declared refl ∙ rw e (o.reads named 1 declared refl ∙ rw f (c.reads declared)); moves = code_sooner s at third r (omega (arith, moves.0, m.0)) c.moves }

-- ---- texts up to $end

moves_sooner : (s : List ℕ) (low high : ℕ) (r : Answer) → low ≤ high → Moves s high r → Moves s low r
moves_sooner s low high (Ok (On to d)) h m = (omega (arith, m.0), m.1)
moves_sooner s low high (Ok (Body to)) h m = (omega (arith, m.0), m.1)
moves_sooner s low high (Err e) h m = tt

module _ (s : List ℕ) (at : ℕ) (declared : Bool) {r : Option ℕ} (t : TextEnds s at r) where
  text_then : (named : List ℕ) → reading_from named s (text declared) at ≡ resumed_at named s (declaration declared) r
  text_then named = skipped_at named s at (text declared) (declaration declared) (λ a w. refl) refl t

  pub text_ends : (to : ℕ) → r ≡ Some to → TextRead s at declared (Ok (On to declared))
  text_ends to e named = record { reads = text_then named ∙ rw e; moves = end_within s at to (rw e at t) }

  pub text_missing : r ≡ None → TextRead s at declared (bad_at (length s))
  text_missing e named = record { reads = text_then named ∙ rw e; moves = tt }

  module _ (from : ℕ) (d : declared ≡ true) where
    body_then : (named : List ℕ) → reading_from named s remark at ≡ resumed_at named s (command false) r
    body_then named = skipped_at named s at remark (command false) (λ a w. refl) refl t

    pub definitions_end : (to : ℕ) → r ≡ Some to → DefinitionsEnd s from at declared (Ok (Body to))
    definitions_end to e named = record { reads = rw d (body_then named ∙ rw e); moves = end_within s at to (rw e at t) }

    pub definitions_missing : r ≡ None → DefinitionsEnd s from at declared (bad_at (length s))
    definitions_missing e named = record { reads = rw d (body_then named ∙ rw e); moves = tt }

pub undeclared : (s : List ℕ) (from at : ℕ) (declared : Bool) → declared ≡ false → DefinitionsEnd s from at declared (bad_at from)
undeclared s from at declared d named = record { reads = rw d; moves = tt }

module _ (named s : List ℕ) (at : ℕ) (declared : Bool) {v : Result Code BadWord} (p : VariableRead named s at v) where
  pub variable_bad : (e : BadWord) → v ≡ Err e → VariableEnds named s at declared (Err e)
  variable_bad e f = record { reads = p.reads declared ∙ rw f; moves = tt }

  pub variable_text : (c : Code) → v ≡ Ok c → {by : Bool} → by ≡ (declared || c.named) → {r : Answer} → TextRead s c.to by r → VariableEnds named s at declared r
  variable_text c e b {r} t =
      let m : Within s at c.to = rw e at p.moves in
      record { reads = p.reads declared ∙ rw (e, ← b) (t named).reads; moves = moves_sooner s at c.to r (omega (arith, m.0)) (t named).moves }

-- ---- a declaration

module _ (named s : List ℕ) (at : ℕ) (declared : Bool) {r : Option Word} (q : r ≡ next_start s at) where
  pub declaration_missing : r ≡ None → DeclarationRead named s at declared (bad_at (length s))
  unfolding reading
  declaration_missing e = record { reads = rw (no_more s at q e); moves = tt }

  module _ (w : Word) (to : ℕ) (e : r ≡ Some w) (t : to ≡ w.from + size (drop w.from s)) where
    next : reading_from named s (declaration declared) at ≡ after (declaration_step declared w.from (take (to - w.from) (drop w.from s))) (λ d. reading_from named s d to)
    unfolding reading
    next = rw (word_then s at q w to e t)

    later : {x : Reading} {y : Answer} → reading_from named s (declaration declared) at ≡ x → Follows named s to x y → DeclarationRead named s at declared y
    later {x} {y} f c = record { reads = f ∙ c.reads; moves = moves_sooner s at to y (omega (arith, part_moves s at q w to e t)) c.moves }

    module _ {f : Bool} (o : f ≡ same (take (to - w.from) (drop w.from s)) (bytes "$var")) where
      pub declaration_variable : {y : Answer} → f ≡ true → VariableEnds named s to declared y → DeclarationRead named s at declared y
      unfolding declaration_step
      declaration_variable z c = later (next ∙ rw (sym o ∙ z)) c

      module _ (z : f ≡ false) {g : Bool} (p : g ≡ same (take (to - w.from) (drop w.from s)) (bytes "$enddefinitions")) where
        pub declaration_last : {y : Answer} → g ≡ true → DefinitionsEnd s w.from to declared y → DeclarationRead named s at declared y
        unfolding declaration_step
        declaration_last u c = later (next ∙ rw (sym o ∙ z, sym p ∙ u) (go declared)) (c named)
          where
            go : (d : Bool) → after (cond d (on remark) (bad w.from)) (λ d. reading_from named s d to) ≡ cond d (reading_from named s remark to) (stopped w.from)
            go true = refl
            go false = refl

        module _ (u : g ≡ false) {h : Bool} (m : h ≡ is_declaration (take (to - w.from) (drop w.from s))) where
          pub declaration_text : {y : Answer} → h ≡ true → TextRead s to declared y → DeclarationRead named s at declared y
          unfolding declaration_step
          declaration_text v c = later (next ∙ rw (sym o ∙ z, sym p ∙ u, sym m ∙ v)) (c named)

          pub declaration_bad : h ≡ false → DeclarationRead named s at declared (bad_at w.from)
          unfolding declaration_step
          declaration_bad v = record { reads = next ∙ rw (sym o ∙ z, sym p ∙ u, sym m ∙ v); moves = tt }

-- ---- all of them, at the turn that begins at p

pub body_start : (named s : List ℕ) → reading_of named s ≡ reading_from named s (declaration false) 0
unfolding reading_of
body_start named s = refl

module _ (named s : List ℕ) (p : ℕ) (declared : Bool) (i : reading_of named s ≡ reading_from named s (declaration declared) p) {r : Answer} (d : DeclarationRead named s p declared r) where
  pub body_on : (to : ℕ) (by : Bool) → r ≡ Ok (On to by) → reading_of named s ≡ reading_from named s (declaration by) to
  body_on to by e = i ∙ d.reads ∙ rw e

  pub body_less : (to : ℕ) (by : Bool) → r ≡ Ok (On to by) → length s - to < length s - p
  body_less to by e = let m : Within s p to = rw e at d.moves in omega (arith, m.0, m.1)

  pub body_at : (to : ℕ) → r ≡ Ok (Body to) → BodyRead named s (Ok to)
  body_at to e = i ∙ d.reads ∙ rw e

  pub body_bad : (e : BadWord) → r ≡ Err e → BodyRead named s (Err e)
  body_bad e f = i ∙ d.reads ∙ rw f
