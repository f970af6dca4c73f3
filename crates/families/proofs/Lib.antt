pub mod AtMost8
