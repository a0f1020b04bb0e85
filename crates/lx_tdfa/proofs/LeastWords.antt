-- Words in their order, and the least word to each state of a search.
pub mod SearchedWords
pub mod WordOrder
