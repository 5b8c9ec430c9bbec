-- `dense_checking::check_call` meets its contract: a pair that the checks on the records refuse is refused by the same fault; for another the
-- tests that led to each `return` say which of the call's own rows is the first that holds, and one that passes is a block.
-- Assumes nothing.
use mathlib.Core.Path.{sym, ◌∙◌}
use native.Mathlib.Omega.{arith}
use Rattle.std.proofs.lemmas.Result.{err_from_is_err_and}
use Rattle.comparison_types.proofs.PairLaws.{still_refused, rest_decides}
use Rattle.dense_types.specs.Call.{block_rows}
use Rattle.dense_checking.proofs.Rows.{within_read, own_counted, few_counted, too_wide, too_many, too_short, nothing_holds}
use Rattle.dense_checking.proofs.check_call.Goals as goal

pub returns-in_err-n-clause-fault : goal.returns-in_err-n-clause-fault
returns-in_err-n-clause-fault c =
    let p = err_from_is_err_and c.from_residual.result c.from_residual.ensures.1 in
    rw (p.1, p.2) (still_refused _ _ _ _ c.in_err-n.ensures.fault)

pub returns-then-n-gt-BLOCK_QUBITS-clause-fault : goal.returns-then-n-gt-BLOCK_QUBITS-clause-fault
returns-then-n-gt-BLOCK_QUBITS-clause-fault c =
    let a = c.args in
    let pair = c.in_ok-n.ensures in
    too_wide pair.found.first.list a.second.now a.numbers c.if-n-gt-BLOCK_QUBITS.true
    ∙ sym (rest_decides a.first.now a.second.now (block_rows a.first.now a.second.now a.numbers) pair.fault)

pub overflow_add-h : goal.overflow_add-h
overflow_add-h c =
    let pair = c.in_ok-n.ensures.found in
    omega (arith, few_counted pair.first c.h_gates-h.ensures, few_counted pair.second c.h_gates-k.ensures)

pub returns-then-h-k-gt-BLOCK_H_GATES-clause-fault : goal.returns-then-h-k-gt-BLOCK_H_GATES-clause-fault
returns-then-h-k-gt-BLOCK_H_GATES-clause-fault c =
    let a = c.args in
    let pair = c.in_ok-n.ensures in
    let h = own_counted pair.found.first c.h_gates-h.ensures in
    let k = own_counted pair.found.second c.h_gates-k.ensures in
    too_many pair.found.first.list a.second.now a.numbers (omega arith) (omega arith)
    ∙ sym (rest_decides a.first.now a.second.now (block_rows a.first.now a.second.now a.numbers) pair.fault)

pub returns-then-numbers-lt-BUFFER_SIZE-clause-fault : goal.returns-then-numbers-lt-BUFFER_SIZE-clause-fault
returns-then-numbers-lt-BUFFER_SIZE-clause-fault c =
    let a = c.args in
    let pair = c.in_ok-n.ensures in
    let h = own_counted pair.found.first c.h_gates-h.ensures in
    let k = own_counted pair.found.second c.h_gates-k.ensures in
    too_short pair.found.first.list a.second.now a.numbers (omega arith) (omega arith) (omega arith)
    ∙ sym (rest_decides a.first.now a.second.now (block_rows a.first.now a.second.now a.numbers) pair.fault)

pub returns-clause-fault : goal.returns-clause-fault
returns-clause-fault c =
    let a = c.args in
    let pair = c.in_ok-n.ensures in
    let h = own_counted pair.found.first c.h_gates-h.ensures in
    let k = own_counted pair.found.second c.h_gates-k.ensures in
    nothing_holds pair.found.first.list a.second.now a.numbers (omega arith) (omega arith) (omega arith)
    ∙ sym (rest_decides a.first.now a.second.now (block_rows a.first.now a.second.now a.numbers) pair.fault)

-- a pair that passed is a block
pub invariant_of-result : goal.invariant_of-result
invariant_of-result c =
    let pair = c.in_ok-n.ensures.found in
    record {
      block = record {
        few = omega arith;
        within_first = within_read pair.first;
        within_second = within_read pair.second;
        h_first = sym c.h_gates-h.ensures;
        h_second = sym c.h_gates-k.ensures;
        small = omega arith;
      };
    }
