-- What the parts of the reading of a frame say.
use Rattle.std.specs.Prelude.{ℕ, nat_le, if◌then◌else◌, List, length, Option, None, Some}
use Rattle.std.specs.Option.{option_map, option_map_or}
use Rattle.profile_plan.specs.declared.rule.Proto.{Proto}
use Rattle.port_classify.specs.declared.tags.Tags.{Tags}
use Rattle.port_classify.specs.declared.carried.Carried.{Carried}
use Rattle.port_classify.specs.Frame.{tags_of, control_of, vlan_id, priority, type_behind, header_of, has_header, code_point, source, destination, label_class}

-- the tags of some bytes, if they are there, and the type behind them
abbrev pub tags_in : List ℕ → Option Tags
tags_in bytes =
    if nat_le (header_of bytes) (length bytes) then
    Some (record {
      count = tags_of bytes;
      vlan = option_map vlan_id (control_of 0 bytes);
      inner = option_map vlan_id (control_of 1 bytes);
      prio = option_map_or priority (control_of 0 bytes) 0;
      ethertype = type_behind (tags_of bytes) bytes;
    })
    else None

-- what a frame carries, if it begins with a header of its protocol
abbrev pub carried_in : Proto → List ℕ → Option Carried
carried_in proto packet =
    if has_header proto packet then
    Some (record {
      proto = proto;
      dscp = code_point proto packet;
      src = source proto packet;
      dst = destination proto packet;
      mpls_tc = label_class proto packet;
    })
    else None
