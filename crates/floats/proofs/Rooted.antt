-- At the antenna's root, what is computed from a root is 01's allowance and excess. Assumes nothing.
use mathlib.Core.Path.{◌≡◌, refl}
use lib.Ieee.{Float}
use Rattle.root.specs.Root.{root}
use Rattle.floats.specs.Horizon.{at_least_zero, horizon, allowance, past_of}
use Rattle.floats.specs.Rooted.{allowance_from, past_from}

pub allowance_at_root : (a b : Float) → allowance_from (root (at_least_zero a)) b ≡ allowance a b
unfolding allowance_from allowance horizon
allowance_at_root a b = refl

pub past_at_root : (edge a b : Float) → past_from edge (root (at_least_zero a)) b ≡ past_of edge a b
unfolding past_from past_of
past_at_root edge a b = rw (allowance_at_root a b)
