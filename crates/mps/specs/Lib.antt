-- The definitions, in reading order: the program of document 02, §5; what reading MPS means; the program's text; the reply and the buffer.
pub mod Program
pub mod Mps
pub mod Text
pub mod Claim
pub mod Reply
