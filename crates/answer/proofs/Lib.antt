-- Right   the answer is the verdict
pub mod Right
