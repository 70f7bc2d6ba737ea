-- The texts that the program itself writes.
use Rattle.std.specs.Prelude.{ℕ, List, codes}
use Rattle.co_front.specs.Texts.{line}

abbrev pub usage_text : List ℕ
usage_text = line (codes "usage: callout_view [lanes] | timer N | cpu N | summary | trace | svg")
