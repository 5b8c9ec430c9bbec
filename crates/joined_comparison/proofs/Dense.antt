-- The promise of specs/Promises.antt on the dense comparison, proved: column by column, a power of ω fits a pair's own list and the empty one
-- exactly where it fits the pair.
-- Assumes nothing.
use mathlib.Core.Path.{◌≡◌, ap, fun_ext}
use mathlib.Core.Logic.{◌↔◌}
use mathlib.Core.Bool.{not}
use Prim.Native.Nat.{ℕ, suc, ◌^◌, ◌≤◌, ◌<◌}
use native.Mathlib.Omega.{arith}
use mathlib.Core.List.{List, []}
use Rattle.record_format.specs.Gate.{Gate, AllWithin}
use Rattle.record_format.specs.Reading.{qubits}
use Rattle.record_format.proofs.GateLaws.{within_append, within_inverse}
use Rattle.amplitude.specs.Circuit.{Fits}
use Rattle.amplitude.specs.Testing.{below, fits_column}
use Rattle.amplitude.proofs.Bridge.{fits_turned, turned_fits}
use Rattle.phase_sum_meaning.proofs.Built.{bool_ext}
use Rattle.comparison_meaning.specs.Verdict.{miter}
use Rattle.dense_meaning.specs.Columns.{powers, some_of, unfit, fits_all, finding}
use Rattle.dense_meaning.proofs.Searching.{same_below}
use Rattle.dense_meaning.proofs.Unfit.{fits_below}
use Rattle.dense_types.proofs.ClauseLaws.{own}
use Rattle.joined_comparison.specs.Promises.{joined, DenseJoinedWithInverse}
use Rattle.joined_comparison.proofs.Theorems.{miter_empty, h_joined, lists, fault_joined}

-- two lists within n qubits
module _ (n : ℕ) (gs hs : List Gate) (l : AllWithin n gs) (r : AllWithin n hs) where
  -- so is their own list
  within : AllWithin n (miter gs hs)
  within = within_append n gs _ l (within_inverse n hs r)

  -- with the empty list, a power fits it at a column exactly where it fits the pair: diagonal amplitude and H gates are the same
  fits_joined : (j v : ℕ) → v < 2 ^ n → Fits n j (miter gs hs) [] v ↔ Fits n j gs hs v
  fits_joined j v b = (
    λ f. turned_fits n gs hs v j l r b (rw (miter_empty, h_joined gs hs) at (fits_turned n (miter gs hs) [] v j within _ b f)),
    λ f. turned_fits n (miter gs hs) [] v j within _ b (rw (miter_empty, h_joined gs hs) (fits_turned n gs hs v j l r b f)),
  )

  -- so the tests of all columns below m agree
  tests_joined : (j m : ℕ) → m ≤ 2 ^ n → below m (fits_column n j (miter gs hs) []) ≡ below m (fits_column n j gs hs)
  tests_joined j m few =
      let old = fits_below n gs hs m j in
      let new = fits_below n (miter gs hs) [] m j in
      bool_ext _ _
      (λ h. old.1 (λ v b. (fits_joined j v (omega arith)).0 (new.0 h v b)))
      (λ h. new.1 (λ v b. (fits_joined j v (omega arith)).1 (old.0 h v b)))

  -- and the same is found
  finding_joined : finding n (miter gs hs) [] ≡ finding n gs hs
  finding_joined =
      rw (
        same_below (unfit n (miter gs hs) []) (unfit n gs hs) (2 ^ n)
            (λ v b. ap (λ test. not (some_of test powers)) (fun_ext (λ j. tests_joined j (suc v) (omega arith)))),
        same_below (fits_all n (miter gs hs) []) (fits_all n gs hs) 8 (λ j b. tests_joined j (2 ^ n) (omega arith)),
      )

-- comparing by the join says what comparing the pair says
pub dense_joined_with_inverse : DenseJoinedWithInverse
dense_joined_with_inverse first second spare buffer empty k both reads-empty =
    let l = lists first second spare buffer both in
    let (n_is, first_is, Within-first) = own first l.n l.gs l.reads_first in
    let (_, second_is, within_second) = own second l.n l.hs l.reads_second in
    let (n-joined, joined_is, _) = own (joined first second spare buffer) l.n (miter l.gs l.hs) l.reads_joined in
    let (_, empty_is, _) = own empty (qubits first) [] reads-empty in
    rw (
      l.reads_first,
      l.reads_second,
      l.reads_joined,
      reads-empty,
      n_is,
      first_is,
      second_is,
      n-joined,
      joined_is,
      empty_is,
      fault_joined l.n l.gs l.hs _,
      h_joined l.gs l.hs,
      finding_joined l.n l.gs l.hs Within-first within_second,
    )
