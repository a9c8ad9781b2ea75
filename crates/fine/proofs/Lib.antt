-- The laws of `fine`: Serving says what each call leaves. Assumes nothing.
pub mod Serving
