-- The laws of `cut`: Drops says what each part leaves. Assumes nothing.
pub mod Drops
