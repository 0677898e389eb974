-- Said     what an answer of the code says (to be believed)        Answer   what is answered after the last event
pub mod Said
pub mod Answer
