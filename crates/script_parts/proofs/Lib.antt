mod SumLaws
mod NumberLaws
