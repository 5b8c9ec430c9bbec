-- `dense_gates::apply_one` meets its contract: the zeros of the matrix say which pass it is.
-- Assumes nothing.
use mathlib.Core.Path.{sym, ap, ◌∙◌}
use native.Mathlib.Omega.{arith}
use Rattle.record_format.specs.Typed.{one_in}
use Rattle.amplitude.specs.Matrix.{O, ω}
use Rattle.dense_columns.specs.Columns.{amplitude_at}
use Rattle.dense_gates.specs.Gates.{entry_of}
use Rattle.dense_gates.proofs.Matrices.{diagonal, crossing, full, some_power, matrix_combines, diagonal_turns, crossing_crosses}
use Rattle.dense_gates.proofs.apply_one.Goals as goal
use Rattle.dense_gates.proofs.apply_one.Goals.{in_default-via-in-None+in_default, in_default-via-in-Some+in-None+in_default, in_default-via-in-Some+in-Some+in-Some+in_default, in_default-via-in-Some+in-Some+in_default}

-- no other matrix is in the table
pub unreachable-requires : goal.unreachable-requires
unreachable-requires c =
    let u = one_in c.args.kind in
    elim c.in_default.branch [
      | in_default-via-in-None+in_default w ↦
          (diagonal u (sym (c.matrix_of.ensures 0 1 (omega arith) (omega arith)) ∙ ap entry_of w.in_default.is-1)).last (sym (c.matrix_of.ensures 1 1 (omega arith) (omega arith)) ∙ ap entry_of w.in_default.is-3)
      | in_default-via-in-Some+in-None+in_default w ↦
          (crossing u (sym (c.matrix_of.ensures 0 0 (omega arith) (omega arith)) ∙ ap entry_of w.in_default.is-0)).lower (sym (c.matrix_of.ensures 1 0 (omega arith) (omega arith)) ∙ ap entry_of w.in_default.is-2)
      | in_default-via-in-Some+in-Some+in-Some+in_default w ↦
          (full u (some_power _ (ap entry_of (sym w.in_default.is-0) ∙ (c.matrix_of.ensures 0 0 (omega arith) (omega arith))))
          (some_power _ (ap entry_of (sym w.in_default.is-1) ∙ (c.matrix_of.ensures 0 1 (omega arith) (omega arith))))).last (sym (c.matrix_of.ensures 1 1 (omega arith) (omega arith)) ∙ ap entry_of w.in_default.is-3)
      | in_default-via-in-Some+in-Some+in_default w ↦
          (full u (some_power _ (ap entry_of (sym w.in_default.is-0) ∙ (c.matrix_of.ensures 0 0 (omega arith) (omega arith))))
          (some_power _ (ap entry_of (sym w.in_default.is-1) ∙ (c.matrix_of.ensures 0 1 (omega arith) (omega arith))))).lower (sym (c.matrix_of.ensures 1 0 (omega arith) (omega arith)) ∙ ap entry_of w.in_default.is-2)
    ]

pub returns-in_default-None-default-Some : goal.returns-in_default-None-default-Some
returns-in_default-None-default-Some c w l =
    let u = one_in c.args.kind in
    let arm = c.in_default-None-default-Some in
    let m = diagonal u (sym (c.matrix_of.ensures 0 1 (omega arith) (omega arith)) ∙ ap entry_of arm.is-1) in
    c.turn_where.ensures w l
    ∙ diagonal_turns c.args.q (amplitude_at c.args.column.now) w arm.d
    ∙ matrix_combines c.args.q (amplitude_at c.args.column.now) w u (ω 0) O O (ω arm.d)
    (record {
      first = sym m.first;
      upper = sym m.upper;
      lower = sym m.lower;
      last = ap entry_of (sym arm.is-3) ∙ (c.matrix_of.ensures 1 1 (omega arith) (omega arith));
    })

pub returns-in-None-Some-Some-default : goal.returns-in-None-Some-Some-default
returns-in-None-Some-Some-default c w l =
    let u = one_in c.args.kind in
    let arm = c.in-None-Some-Some-default in
    let m = crossing u (sym (c.matrix_of.ensures 0 0 (omega arith) (omega arith)) ∙ ap entry_of arm.is-0) in
    c.cross_along.ensures w l
    ∙ crossing_crosses c.args.q (amplitude_at c.args.column.now) w arm.b arm.c
    ∙ matrix_combines c.args.q (amplitude_at c.args.column.now) w u O (ω arm.b) (ω arm.c) O
    (record {
      first = sym m.first;
      upper = ap entry_of (sym arm.is-1) ∙ (c.matrix_of.ensures 0 1 (omega arith) (omega arith));
      lower = ap entry_of (sym arm.is-2) ∙ (c.matrix_of.ensures 1 0 (omega arith) (omega arith));
      last = sym m.last;
    })

pub returns-in-Some-Some-Some-Some : goal.returns-in-Some-Some-Some-Some
returns-in-Some-Some-Some-Some c w l =
    let arm = c.in-Some-Some-Some-Some in
    c.pass.ensures w l
    ∙ matrix_combines c.args.q (amplitude_at c.args.column.now) w (one_in c.args.kind) (ω arm.a) (ω arm.b) (ω arm.c) (ω arm.d)
    (record {
      first = ap entry_of (sym arm.is-0) ∙ (c.matrix_of.ensures 0 0 (omega arith) (omega arith));
      upper = ap entry_of (sym arm.is-1) ∙ (c.matrix_of.ensures 0 1 (omega arith) (omega arith));
      lower = ap entry_of (sym arm.is-2) ∙ (c.matrix_of.ensures 1 0 (omega arith) (omega arith));
      last = ap entry_of (sym arm.is-3) ∙ (c.matrix_of.ensures 1 1 (omega arith) (omega arith));
    })
