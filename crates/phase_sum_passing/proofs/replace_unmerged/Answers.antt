-- `phase_sum_passing::replace_unmerged` meets its contract: each turn sends one more term.
-- Assumes nothing.
use mathlib.Core.Path.{◌≡◌, refl, sym}
use Prim.Native.Nat.{◌<◌}
use native.Mathlib.Omega.{arith}
use lib.ListN.{length, get_or}
use Rattle.phase_sum_meaning.specs.Phase.{term, rebuild}
use Rattle.phase_sum_types.specs.Workspace.{sets_at, zip_terms, held}
use Rattle.phase_sum_types.specs.Unmerged.{phase_term}
use Rattle.phase_sum_types.proofs.Merging.{rebuild_constant}
use Rattle.phase_sum_types.proofs.Storing.{held_more}
use Rattle.phase_sum_types.proofs.TwoWords.{inside, all_inside}
use Rattle.phase_sum_types.proofs.Passes.{passed_none, passed_more, passed_all, front_next}
use Rattle.phase_sum_passing.proofs.replace_unmerged.Invariants.{replaced}
use Rattle.phase_sum_passing.proofs.replace_unmerged.Goals as goal

pub loop-i-init : goal.loop-i-init
unfolding rebuild zip_terms
loop-i-init c = (λ k e. sym e, passed_none _ _ _)

pub loop-i-preserved : goal.loop-i-preserved
unfolding phase_term
loop-i-preserved c =
    let a = c.args in
    let ss = sets_at a.sets.now in
    let cs = a.coeffs.now in
    let f = replaced a.z a.p in
    let i = c.loop-i.i in
    let k : i < length cs = omega arith in
    let l : i < length ss = inside a.sets.now (omega arith) in
    let inv = c.loop-i.invariant in
    let p = inv.1 in
    let new = c.replace_at-constant in (
      λ m e.
          rw (
            held_more i ss cs l k,
            rebuild_constant f m (held i ss cs) (term (get_or ss i 0) (get_or cs i 0)),
            ← front_next 0 p.sets l,
            ← front_next 0 p.coeffs k,
            ← inv.0 m e,
          )
          new.ensures.constant,
      rw (new.ensures.sets, new.ensures.bytes) (passed_more _ _ p l k refl),
    )

pub returns-clause-terms : goal.returns-clause-terms
returns-clause-terms c =
    let a = c.args in
    let done : c.loop-i.i ≡ a.phase.count = omega arith in
    passed_all (rw done at c.loop-i.invariant.1) (all_inside a.sets.now (omega arith)) (omega arith)
