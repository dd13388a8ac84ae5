-- The one file: when a workspace is short, and what a cleared one holds.
pub mod Workspace
