-- What the contracts of the phase-sum layer say. In order: terms in lent workspaces, building with the terms unmerged, and what private
-- functions do.
pub mod Workspace
pub mod Unmerged
pub mod Inner
