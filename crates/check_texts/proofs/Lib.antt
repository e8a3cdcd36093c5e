-- Laws of texts whose bytes are all ASCII.
mod PlainLaws
mod MarkLaws
mod TextsLaws
