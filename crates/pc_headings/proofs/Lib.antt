pub mod LoopSteps
