pub mod Patched
pub mod PatchedLaws
