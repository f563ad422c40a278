-- What a text may be answered, want of memory aside.
use Rattle.std.specs.Prelude.{◌≡◌, ℕ, List, Result, Ok, Err, None, Some}
use Rattle.profile_plan.specs.Profile.{Plan, KeepsLimits}
use Rattle.qos_profile.specs.declared.fault.ProfileFault.{ProfileFault}
use Rattle.qos_profile.specs.Faults.{fault_of_text}
use Rattle.qos_profile.specs.Planned.{profile_of}

-- an answer to a text: the profile that it says, within all limits, where it has no fault, and else its first fault
abbrev pub IsAnswer : List ℕ → Result Plan ProfileFault → Type 0
IsAnswer text (Ok plan) = (fault_of_text text ≡ None) × (plan ≡ profile_of text) × KeepsLimits plan
IsAnswer text (Err fault) = fault_of_text text ≡ Some fault

-- there is one answer, and no other
abbrev pub HasOneAnswer : List ℕ → Type 0
HasOneAnswer text = (answer : Result Plan ProfileFault) × IsAnswer text answer × ((other : Result Plan ProfileFault) → IsAnswer text other → other ≡ answer)
