-- What is answered of a request can be spelled, since the request was.
use Rattle.std.proofs.Common.{Bool, true, false, cond, not, ◌==◌, if◌then◌else◌, List, [], ◌∷◌, map, filter, Option, Some, unwrap_or, lit≤}
use Rattle.std.specs.Option.{option_map}
use Rattle.std.specs.List.{AllByRecursion, find}
use Rattle.ipp_coding.specs.Plain.{PlainAttribute, PlainGroup, PlainMessage}
use Rattle.ipp_coding.specs.Spelling.{IsAttribute, IsGroup, IsValue}
use Rattle.account_asks.specs.declared.operation.Operation.{Operation}
use Rattle.account_asks.specs.Operations.{makes_job}
use Rattle.account_asks.specs.Requests.{is_named, job_group_of}
use Rattle.account_asks.specs.Templates.{template_attributes, is_known, unsupported_values, returned, is_supported, firsts, unsupported}

abbrev pub AreSpelled : List PlainAttribute → Type 0
AreSpelled attributes = AllByRecursion IsAttribute attributes

-- ---- the job group

picked_spelled : (here : Bool) (group : PlainGroup) (found : Option PlainGroup) → AreSpelled group.attributes →
    AreSpelled (unwrap_or (option_map (λ g. g.attributes) found) []) → AreSpelled (unwrap_or (option_map (λ g. g.attributes) (cond here (Some group) found)) [])
picked_spelled true group found own later = own
picked_spelled false group found own later = later

job_group_spelled : (groups : List PlainGroup) → AllByRecursion IsGroup groups → AreSpelled (unwrap_or (job_group_of groups) [])
job_group_spelled [] all = tt
job_group_spelled (group ∷ groups) all =
    picked_spelled (group.tag == 2) group (find (λ g. g.tag == 2) groups) all.0.attributes (job_group_spelled groups all.1)

where_read : (reads : Bool) (attributes : List PlainAttribute) → AreSpelled attributes → AreSpelled (if reads then attributes else [])
where_read true attributes all = all
where_read false attributes all = tt

templates_spelled : (operation : Operation) (m : PlainMessage) → AllByRecursion IsGroup m.groups → AreSpelled (template_attributes operation m)
unfolding template_attributes
templates_spelled operation m all = where_read (makes_job operation) (unwrap_or (job_group_of m.groups) []) (job_group_spelled m.groups all)

-- ---- those that are returned

unknown_spelled : IsValue (record { tag = 0x10; bytes = [] })
unknown_spelled = record { tag = lit≤ tt; bytes = lit≤ tt }

known_or_unknown : (known : Bool) (attribute : PlainAttribute) → IsAttribute attribute → IsAttribute (if known then attribute else record { name = attribute.name; values = unsupported_values })
known_or_unknown true attribute spelled = spelled
known_or_unknown false attribute spelled = record { named = spelled.named; name = spelled.name; values = (unknown_spelled, tt) }

returned_spelled : (attribute : PlainAttribute) → IsAttribute attribute → IsAttribute (returned attribute)
returned_spelled attribute spelled = known_or_unknown (is_known attribute) attribute spelled

-- those that a test keeps
kept_spelled : (test : PlainAttribute → Bool) (attributes : List PlainAttribute) → AreSpelled attributes → AreSpelled (filter test attributes)
kept_spelled test [] all = tt
kept_spelled test (attribute ∷ later) all =
    let rest = kept_spelled test later all.1 in
    elim (test attribute) as (λ b. AreSpelled (cond b (attribute ∷ filter test later) (filter test later))) [ true ↦ (all.0, rest) | false ↦ rest ]

firsts_spelled : (attributes : List PlainAttribute) → AreSpelled attributes → AreSpelled (firsts attributes)
firsts_spelled [] all = tt
firsts_spelled (attribute ∷ later) all = (all.0, kept_spelled (λ other. not (is_named attribute.name other)) (firsts later) (firsts_spelled later all.1))

all_returned_spelled : (attributes : List PlainAttribute) → AreSpelled attributes → AreSpelled (map returned attributes)
all_returned_spelled [] all = tt
all_returned_spelled (attribute ∷ later) all = (returned_spelled attribute all.0, all_returned_spelled later all.1)

pub unsupported_spelled : (operation : Operation) (m : PlainMessage) → AllByRecursion IsGroup m.groups → AreSpelled (unsupported (template_attributes operation m))
unfolding unsupported
unsupported_spelled operation m all =
    let attributes = template_attributes operation m in
    all_returned_spelled (filter (λ attribute. not (is_supported attribute)) (firsts attributes))
    (kept_spelled (λ attribute. not (is_supported attribute)) (firsts attributes) (firsts_spelled attributes (templates_spelled operation m all)))
