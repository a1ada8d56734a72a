use Rattle.std.proofs.Common.{rules}
use Rattle.commands.proofs.Steps.{command_missing, command_within, command_some, command_vector, command_time, command_scalar, command_keyword, command_real, command_bad}
use Rattle.commands.proofs.command_at.Goals as goal

pub returns-in_default : goal.returns-in_default
returns-in_default c = search command_missing

pub vector_at-requires : goal.vector_at-requires
vector_at-requires c = command_within c.args.code.now _ _ c.args.dump c.next_start.ensures _ c.in-Some.is

pub time_at-requires : goal.time_at-requires
time_at-requires c = command_within c.args.code.now _ _ c.args.dump c.next_start.ensures _ c.in-Some.is

pub keyword_at-requires : goal.keyword_at-requires
keyword_at-requires c = (command_within c.args.code.now _ _ c.args.dump c.next_start.ensures _ c.in-Some.is, command_some c.args.code.now _ _ c.args.dump c.next_start.ensures _ c.in-Some.is)

pub scalar_at-requires : goal.scalar_at-requires
scalar_at-requires c = command_within c.args.code.now _ _ c.args.dump c.next_start.ensures _ c.in-Some.is

pub returns-in-98 : goal.returns-in-98
returns-in-98 c = command_vector _ _ _ _ c.next_start.ensures _ c.in-Some.is c.in-98.is c.vector_at.ensures

pub returns-in-35 : goal.returns-in-35
returns-in-35 c = command_time _ _ _ _ c.next_start.ensures _ c.in-Some.is c.in-35.is c.time_at.ensures

pub returns-in-36 : goal.returns-in-36
returns-in-36 c = command_keyword _ _ _ _ c.next_start.ensures _ c.in-Some.is c.in-36.is c.keyword_at.ensures

pub returns-in-114 : goal.returns-in-114
returns-in-114 c = command_real _ _ _ _ c.next_start.ensures _ c.in-Some.is c.in-114.is c.real_at.ensures

pub returns-in_default-first : goal.returns-in_default-first
returns-in_default-first c = command_scalar _ _ _ _ c.next_start.ensures _ c.in-Some.is (search rules) c.is_state.ensures c.if-is_state.true c.scalar_at.ensures

pub returns-in_default-2 : goal.returns-in_default-2
returns-in_default-2 c = command_bad _ _ _ _ c.next_start.ensures _ c.in-Some.is (search rules) c.is_state.ensures c.if-is_state.false
