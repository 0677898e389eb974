-- Listed   what a day list says: its creditor and its collections      Numbers   terms as numbers      Good   good values
pub mod Listed
pub mod Numbers
pub mod Good
