-- Document 01's examples as one table, and the numbers of the change requests as another; further inputs, by subject, on which a plausible mistake gives another answer.
pub mod Written
pub mod Table
pub mod Numbers
pub mod Readers
pub mod Axes
pub mod Avar
pub mod Store
pub mod Requests
