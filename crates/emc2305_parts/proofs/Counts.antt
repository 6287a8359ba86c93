-- How many fans a part has, and how many identity bytes.
use mathlib.Core.Path.{◌≡◌}
use Prim.Native.Nat.{ℕ, ◌≤◌}
use native.Mathlib.Omega.{arith}
use lib.ListN.{get_or, get_or-eq_default}
use Rattle.emc2305_parts.specs.declared.Part.{Part}
use Rattle.emc2305_parts.specs.declared.Part.TheVariants.{Emc2301, Emc2302, Emc2303, Emc2305}
use Rattle.emc2305_parts.specs.Parts.{fans_of, table_identity, identity_of}

-- five at most
pub few_fans : (part : Part) → fans_of part ≤ 5
few_fans Emc2301 = omega arith
few_fans Emc2302 = omega arith
few_fans Emc2303 = omega arith
few_fans Emc2305 = omega arith

-- and one at least
pub some_fans : (part : Part) → 1 ≤ fans_of part
some_fans Emc2301 = omega arith
some_fans Emc2302 = omega arith
some_fans Emc2303 = omega arith
some_fans Emc2305 = omega arith

-- past the four identity bytes there is none
pub no_identity : (part : Part) (i : ℕ) → 4 ≤ i → get_or (identity_of part) i 0 ≡ 0
no_identity Emc2301 i h = get_or-eq_default table_identity 0 {n = i} h
no_identity Emc2302 i h = get_or-eq_default table_identity 0 {n = i} h
no_identity Emc2303 i h = get_or-eq_default table_identity 0 {n = i} h
no_identity Emc2305 i h = get_or-eq_default table_identity 0 {n = i} h
