-- What upper crates cite: seats that are split off the same seats, one after another.
use Rattle.std.proofs.Common.{◌<◌, List, arith}
use Rattle.rs_turn.specs.Sitting.{Sitting, IsSplitFrom}
use Rattle.rs_hall.specs.Abreast.{EachPair, no_pair, one_pair, EachTriple, no_triple, one_triple}

module _ {W V : Type 0} where
  -- a seat has a lower number than another that is split off later
  abbrev pub IsNumberedBefore : Sitting W V → Sitting W V → Type 0
  IsNumberedBefore s t = s.who < t.who

  pub numbers_rise : {a b c earlier later : List (Sitting W V)} → EachTriple IsSplitFrom a b earlier → EachTriple IsSplitFrom b c later
      → EachPair IsNumberedBefore earlier later
  numbers_rise no_triple no_triple = no_pair
  numbers_rise (one_triple first rest) (one_triple next others) =
      one_pair (let known = first.known in let above = next.later in omega arith) (numbers_rise rest others)
