-- What one more read adds
mod ReadLaws
