use Rattle.numbers.proofs.Numbers.{minus_none, minus_zero, minus_cast, minus_sub, minus_number}
use Rattle.numbers.proofs.negative_by.Goals as goal

pub returns-in_default : goal.returns-in_default
returns-in_default c = search minus_none

pub returns-then-n-eq0 : goal.returns-then-n-eq0
returns-then-n-eq0 c = search minus_zero

pub overflow_cast-m : goal.overflow_cast-m
overflow_cast-m c = search minus_cast

pub overflow_sub-result : goal.overflow_sub-result
overflow_sub-result c = search minus_sub

pub returns : goal.returns
returns c = search minus_number
