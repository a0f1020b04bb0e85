pub mod PutLemmas
mod ReadLemmas
