-- The worked example of the format: the router that a script starts with.
use Rattle.std.specs.Prelude.{[], ◌∷◌, map, ◌≡◌}
use Rattle.input_router.specs.Router.{empty_router}
use Rattle.answer_numbers.specs.Numbers.{dumped_number, dump_digest}
use Rattle.router_dump.specs.Router.{router_numbers}

-- `router 128`
pub record RouterClaims : Type 0 where
  pub first_dump : map dumped_number (router_numbers (empty_router 128)) ≡ 128 ∷ 0 ∷ 0 ∷ 0 ∷ 0 ∷ 0 ∷ []
  pub first_digest : dump_digest (router_numbers (empty_router 128)) ≡ 3239512384180555043
