-- Ready   what the writers of a batch ask of the list, its table of starts and its labels
pub mod Ready
