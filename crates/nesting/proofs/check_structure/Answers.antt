use Rattle.std.proofs.Common.{◌≡◌, ◌∙◌, sym, drop, false}
use Rattle.wcet.specs.Rules.{accepted, check, sizes_wrong, structure_rules}
use Rattle.nesting.specs.Columns.{routine_of, Sized, Ranged}
use Rattle.nesting.proofs.Stages.{fits, loops_sized, blocks_sized, keeps, headers_named, heads, nestable}
use Rattle.nesting.proofs.Chain.{place_decides, place_holds, place_clear, sizes_decide, sizes_clear, broken_checked, nesting_checked}
use Rattle.nesting.proofs.check_structure.Goals as goal

pub returns-then-sizes_wrong : goal.returns-then-sizes_wrong
returns-then-sizes_wrong c = broken_checked _ _ _ (sizes_decide (routine_of c.args.tables.now) _ (sym c.sizes_wrong.ensures ∙ c.if-sizes_wrong.true))

pub first_wrong_loop-requires : goal.first_wrong_loop-requires
first_wrong_loop-requires c =
    let t = routine_of c.args.tables.now in
    loops_sized t (fits t (sym c.sizes_wrong.ensures ∙ c.if-sizes_wrong.false))

pub returns-in-Some : goal.returns-in-Some
unfolding structure_rules
returns-in-Some c =
    let t = routine_of c.args.tables.now in
    let after-201 : sizes_wrong t ≡ false = sym c.sizes_wrong.ensures ∙ c.if-sizes_wrong.false in
    broken_checked _ _ _ (place_decides _ _ _ c.first_wrong_loop.ensures 202 _ _ _ c.in-Some.is ∙ sizes_clear t _ after-201)

pub first_wrong_block-requires : goal.first_wrong_block-requires
first_wrong_block-requires c =
    let t = routine_of c.args.tables.now in
    blocks_sized t (fits t (sym c.sizes_wrong.ensures ∙ c.if-sizes_wrong.false))

pub returns-in-Some-first_wrong_block : goal.returns-in-Some-first_wrong_block
unfolding structure_rules
returns-in-Some-first_wrong_block c =
    let t = routine_of c.args.tables.now in
    let after-201 : sizes_wrong t ≡ false = sym c.sizes_wrong.ensures ∙ c.if-sizes_wrong.false in
    let after-202 : check (drop 2 (structure_rules t)) (accepted (tt {0})) ≡ check (structure_rules t) (accepted tt) = place_clear _ _ _ c.first_wrong_loop.ensures 202 _ _ c.in_default.is ∙ sizes_clear t _ after-201 in
    broken_checked _ _ _ (place_decides _ _ _ c.first_wrong_block.ensures 203 _ _ _ c.in-Some-first_wrong_block.is ∙ after-202)

pub first_header_elsewhere-requires : goal.first_header_elsewhere-requires
first_header_elsewhere-requires c =
    let t = routine_of c.args.tables.now in
    let sized : Sized t = fits t (sym c.sizes_wrong.ensures ∙ c.if-sizes_wrong.false) in
    headers_named t (keeps t sized (place_holds _ _ _ c.first_wrong_loop.ensures c.in_default.is) (place_holds _ _ _ c.first_wrong_block.ensures c.in_default-first_wrong_block.is))

pub returns-in-Some-first_header_elsewhere : goal.returns-in-Some-first_header_elsewhere
unfolding structure_rules
returns-in-Some-first_header_elsewhere c =
    let t = routine_of c.args.tables.now in
    let after-201 : sizes_wrong t ≡ false = sym c.sizes_wrong.ensures ∙ c.if-sizes_wrong.false in
    let after-202 : check (drop 2 (structure_rules t)) (accepted (tt {0})) ≡ check (structure_rules t) (accepted tt) = place_clear _ _ _ c.first_wrong_loop.ensures 202 _ _ c.in_default.is ∙ sizes_clear t _ after-201 in
    let after-203 : check (drop 3 (structure_rules t)) (accepted (tt {0})) ≡ check (structure_rules t) (accepted tt) = place_clear _ _ _ c.first_wrong_block.ensures 203 _ _ c.in_default-first_wrong_block.is ∙ after-202 in
    broken_checked _ _ _ (place_decides _ _ _ c.first_header_elsewhere.ensures 204 _ _ _ c.in-Some-first_header_elsewhere.is ∙ after-203)

pub check_nesting-requires : goal.check_nesting-requires
check_nesting-requires c =
    let t = routine_of c.args.tables.now in
    let sized : Sized t = fits t (sym c.sizes_wrong.ensures ∙ c.if-sizes_wrong.false) in
    let ranged : Ranged t = keeps t sized (place_holds _ _ _ c.first_wrong_loop.ensures c.in_default.is) (place_holds _ _ _ c.first_wrong_block.ensures c.in_default-first_wrong_block.is) in
    nestable t (heads t ranged (place_holds _ _ _ c.first_header_elsewhere.ensures c.in_default-first_header_elsewhere.is))

pub returns : goal.returns
unfolding structure_rules
returns c =
    let t = routine_of c.args.tables.now in
    let after-201 : sizes_wrong t ≡ false = sym c.sizes_wrong.ensures ∙ c.if-sizes_wrong.false in
    let after-202 : check (drop 2 (structure_rules t)) (accepted (tt {0})) ≡ check (structure_rules t) (accepted tt) = place_clear _ _ _ c.first_wrong_loop.ensures 202 _ _ c.in_default.is ∙ sizes_clear t _ after-201 in
    let after-203 : check (drop 3 (structure_rules t)) (accepted (tt {0})) ≡ check (structure_rules t) (accepted tt) = place_clear _ _ _ c.first_wrong_block.ensures 203 _ _ c.in_default-first_wrong_block.is ∙ after-202 in
    let after-204 : check (drop 4 (structure_rules t)) (accepted (tt {0})) ≡ check (structure_rules t) (accepted tt) = place_clear _ _ _ c.first_header_elsewhere.ensures 204 _ _ c.in_default-first_header_elsewhere.is ∙ after-203 in
    nesting_checked t _ c.check_nesting.ensures after-204
