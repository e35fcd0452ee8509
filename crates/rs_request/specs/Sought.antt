-- What a search for an empty line has found so far.
use Rattle.std.specs.Prelude.{◌≡◌, ◌≤◌, ℕ, List, length, take, Some}
use Rattle.rs_request.specs.declared.search.Spot.{Spot}
use Rattle.rs_request.specs.declared.search.Search.{Search}
use Rattle.rs_request.specs.Lines.{spot_after}

-- the bytes have no empty line where the search has been, and it stands where that leads
pub record IsSought (start : Spot) (search : Search) (bytes : List ℕ) : Type 0 where
  pub within : search.sought ≤ length bytes
  pub spot : spot_after start (take search.sought bytes) ≡ Some search.spot
