pub mod Retyping
