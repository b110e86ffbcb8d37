mod BlankLemmas
mod CutLemmas
mod EndedRows
mod NumberLemmas
mod PlainLemmas
mod TextLemmas
mod ViewLemmas
