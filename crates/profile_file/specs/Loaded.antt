-- What is answered for a profile's file.
use Rattle.std.specs.Prelude.{◌≡◌, ℕ, ◌+◌, List, take, Result, Ok, Err, None, Some, ⊤}
use Rattle.profile_plan.specs.Profile.{Plan}
use Rattle.qos_profile.specs.declared.limits.TheConstants.{MAX_TEXT}
use Rattle.qos_profile.specs.Faults.{fault_of_text}
use Rattle.qos_profile.specs.Planned.{profile_of}
use Rattle.profile_file.specs.declared.fault.LoadFault.{LoadFault}
use Rattle.profile_file.specs.declared.fault.LoadFault.TheVariants as faults

-- the text that a file's bytes are read as: all of them, or so many that they are too many
abbrev pub text_in : List ℕ → List ℕ
text_in bytes = take (MAX_TEXT + 1) bytes

-- an answer for a text: the profile that it says, or its first fault; the other two say nothing of it
abbrev pub IsAnswer : List ℕ → Result Plan LoadFault → Type 0
IsAnswer text (Ok plan) = (fault_of_text text ≡ None) × (plan ≡ profile_of text)
IsAnswer text (Err (faults.Fault fault)) = fault_of_text text ≡ Some fault
IsAnswer text (Err faults.Unread) = ⊤
IsAnswer text (Err faults.NoMemory) = ⊤

-- an answer for a file of these bytes
abbrev pub IsLoaded : List ℕ → Result Plan LoadFault → Type 0
IsLoaded bytes answer = IsAnswer (text_in bytes) answer
