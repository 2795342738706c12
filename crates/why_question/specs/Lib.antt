pub mod Because
