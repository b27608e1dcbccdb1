-- What a ground is made of. This project's own.
use Rattle.std.specs.Prelude.{◌≡◌, string_bytes}
use Rattle.td_indices.specs.Archive.{Contents}
use Rattle.td_indices.specs.Supplying.{supply_of}
use Rattle.td_inputs.specs.Inputs.{AreRowsOf, Texts}
use Rattle.td_supply.specs.Supply.{stock_of}
use Rattle.td_lasting.specs.Basis.{header_of}
use Rattle.td_session.specs.declared.ground.Ground.{Ground}

-- the ground is that of the archive that the texts are: its rows, its offers and its header
pub record IsGroundOf (x : Texts) (c : Contents) (g : Ground) : Type 0 where
  pub rows : AreRowsOf c x.state g.rows
  pub stock : stock_of g.supply ≡ supply_of c
  pub header : string_bytes g.header ≡ header_of c g.rows
