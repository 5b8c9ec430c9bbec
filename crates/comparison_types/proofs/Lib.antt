-- Laws behind the code of the comparison. In order: pinning; the steps; the search, and its inputs of weight 3; the verdict; the checks on a pair; the promises of the
-- table; the clauses; the pick.
pub mod PinLaws
pub mod StepCases
pub mod SearchLaws
pub mod TripleLaws
pub mod VerdictLaws
pub mod PairLaws
pub mod Theorems
pub mod ClauseLaws
pub mod PickLaws
pub mod Anchors
