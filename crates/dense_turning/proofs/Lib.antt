-- Laws of turns and exchanges: one turn of each gate's pass.
pub mod Turns
