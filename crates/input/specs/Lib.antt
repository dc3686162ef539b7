-- Standard input.
pub mod Input
