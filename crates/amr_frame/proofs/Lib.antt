pub mod AppendsLemmas
pub mod BlocksLemmas
pub mod FirstLemmas
