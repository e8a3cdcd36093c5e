-- An image that was lowered fits into its buffer.
mod FitLaws
