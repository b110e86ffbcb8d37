-- What contracts see of heads.
use Rattle.std.specs.Prelude.{ℕ, List}
use Rattle.merge_read.specs.declared.head.Head.{Head}

-- the heads in some order, and how many there may be without more memory
pub record HeadsView : Type 0 where
  pub items : List Head
  pub room : ℕ
