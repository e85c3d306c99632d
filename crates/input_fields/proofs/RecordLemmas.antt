-- The records of a text, by those that were read so far.
use Rattle.std.proofs.Common.{◌≡◌, ◌∙◌, ◌==◌, ℕ, zero, suc, ◌+◌, ◌-◌, ◌<◌, ◌≤◌, Bool, true, false, List, [], ◌∷◌, ◌++◌, length, Option, Some, None, if◌then◌else◌, ap, refl, arith, append-nil, length-append, zero-add, ◌&&◌}
use Rattle.std.specs.Prelude.{⊤}
use Rattle.csv.specs.Machine.{Read, after_end, carriage_return, ends_at_end, ends_with, field_after, fields_after, in_field, is_byte, is_end, line_feed, next_record, start_field, start_record, step}
use Rattle.csv.specs.Reading.{Reached, records, records_from}
use Rattle.csv.specs.declared.parser.Action.{Action}
use Rattle.csv.specs.declared.parser.Action.TheVariants as act
use Rattle.csv.specs.declared.parser.Config.{Config}
use Rattle.csv.specs.declared.parser.State.{State}
use Rattle.csv.specs.declared.parser.State.TheVariants as st
use Rattle.csv.specs.declared.parser.Terminator.{Terminator}
use Rattle.csv.specs.declared.parser.Terminator.TheVariants as term

-- after the byte that ends a record the end of the text ends none
abbrev EndsBetween : State × Action → Type 0
EndsBetween p = is_end p.1 ≡ true → ends_at_end p.0 ≡ false

either : (b : Bool) (x y : State × Action) → EndsBetween x → EndsBetween y → EndsBetween (if b then x else y)
either true x y one other = one
either false x y one other = other

state-either : (b : Bool) → ends_at_end (if b then st.AfterCr else st.StartRecord) ≡ false
state-either true = refl
state-either false = refl

after-end : (t : Terminator) (c : ℕ) → ends_at_end (after_end t c) ≡ false
after-end term.CRLF c = state-either (c == carriage_return)
after-end (term.Any t) c = refl

field-ends : (cfg : Config) (c : ℕ) → EndsBetween (in_field cfg c)
field-ends cfg c = either (c == cfg.delimiter) (st.StartField, act.EndField) (if ends_with cfg.terminator c then (after_end cfg.terminator c, act.EndRecord) else (st.InField, act.Copy)) (λ e. cc e)
    (either (ends_with cfg.terminator c) (after_end cfg.terminator c, act.EndRecord) (st.InField, act.Copy) (λ e. after-end cfg.terminator c) (λ e. cc e))

start-ends : (cfg : Config) (c : ℕ) → EndsBetween (start_field cfg c)
start-ends cfg c = either (cfg.quoting && (c == cfg.quote)) (st.InQuoted, act.Skip) (in_field cfg c) (λ e. cc e) (field-ends cfg c)

record-ends : (cfg : Config) (c : ℕ) → EndsBetween (start_record cfg c)
record-ends cfg c = either (ends_with cfg.terminator c) (st.StartRecord, act.Skip) (if is_byte cfg.comment c then (st.InComment, act.Skip) else start_field cfg c) (λ e. refl)
    (either (is_byte cfg.comment c) (st.InComment, act.Skip) (start_field cfg c) (λ e. cc e) (start-ends cfg c))

step-ends : (cfg : Config) (s : State) (c : ℕ) → EndsBetween (step cfg s c)
step-ends cfg st.StartRecord c = record-ends cfg c
step-ends cfg st.StartField c = start-ends cfg c
step-ends cfg st.InField c = field-ends cfg c
step-ends cfg st.InQuoted c = either (cfg.quoting && (c == cfg.quote)) (st.AfterQuote, act.Skip) (if cfg.quoting && is_byte cfg.escape c then (st.InEscape, act.Skip) else (st.InQuoted, act.Copy)) (λ e. cc e)
    (either (cfg.quoting && is_byte cfg.escape c) (st.InEscape, act.Skip) (st.InQuoted, act.Copy) (λ e. cc e) (λ e. cc e))
step-ends cfg st.InEscape c = λ e. cc e
step-ends cfg st.AfterQuote c = either (cfg.quoting && cfg.double_quote && (c == cfg.quote)) (st.InQuoted, act.Copy) (in_field cfg c) (λ e. cc e) (field-ends cfg c)
step-ends cfg st.InComment c = either (c == line_feed) (st.StartRecord, act.Skip) (st.InComment, act.Skip) (λ e. refl) (λ e. cc e)
step-ends cfg st.AfterCr c = either (c == line_feed) (st.StartRecord, act.Skip) (start_record cfg c) (λ e. refl) (record-ends cfg c)

-- a record that was read left a state between two records, and fewer bytes where it began in one
abbrev Moves : State → List ℕ → Option Read → Type 0
Moves s bytes None = ⊤
Moves s bytes (Some p) = (ends_at_end p.1 ≡ false) × (length p.2 ≤ length bytes) × (ends_at_end s ≡ false → length p.2 < length bytes)

moves-at-end : (s : State) (fields : List (List ℕ)) (b : Bool) → ends_at_end s ≡ b → Moves s [] (if b then Some (fields, st.StartRecord, []) else None)
moves-at-end s fields true e = (refl, omega arith, λ between. absurd (cc (e, between)))
moves-at-end s fields false e = tt

moves-on : (s : State) (c : ℕ) (rest : List ℕ) (b : Bool) (x : Read) (next : Option Read) → (b ≡ true → ends_at_end x.1 ≡ false) → x.2 ≡ rest → ((t : State) × Moves t rest next)
    → Moves s (c ∷ rest) (if b then Some x else next)
moves-on s c rest true x next between same more = let e : length x.2 ≡ length rest = ap length same in (between refl, omega arith, λ start. omega arith)
moves-on s c rest false x None between same more = tt
moves-on s c rest false x (Some p) between same more = (more.1.0, let h = more.1.1 in omega arith, λ start. let h = more.1.1 in omega arith)

pub next_record-moves : (cfg : Config) (s : State) (fields : List (List ℕ)) (field bytes : List ℕ) → Moves s bytes (next_record cfg s fields field bytes)
unfolding next_record
next_record-moves cfg s fields field [] = moves-at-end s (fields ++ (field ∷ [])) (ends_at_end s) refl
next_record-moves cfg s fields field (c ∷ rest) = moves-on s c rest (is_end (step cfg s c).1) (fields_after (step cfg s c).1 fields field, (step cfg s c).0, rest)
    (next_record cfg (step cfg s c).0 (fields_after (step cfg s c).1 fields field) (field_after (step cfg s c).1 c field) rest)
    (step-ends cfg s c) refl ((step cfg s c).0, next_record-moves cfg (step cfg s c).0 (fields_after (step cfg s c).1 fields field) (field_after (step cfg s c).1 c field) rest)

-- no more records than bytes
reached-short : (cfg : Config) (s s2 : State) (bytes rest : List ℕ) (rows : List (List (List ℕ))) → ends_at_end s ≡ false → Reached cfg s bytes rows s2 rest → length rows ≤ length bytes
unfolding Reached
reached-short cfg s s2 bytes rest [] between h = omega arith
reached-short cfg s s2 bytes rest (row ∷ rows) between h =
    let moves : Moves s bytes (Some h.0) = rw h.1 at (next_record-moves cfg s [] [] bytes) in
    let less = moves.2 between in
    let few = reached-short cfg h.0.1 s2 h.0.2 rest rows moves.0 h.3 in
    omega arith

-- the records that were read are the first of all, and those of what is left come after
reached-first : (cfg : Config) (s s2 : State) (bytes rest : List ℕ) (rows : List (List (List ℕ))) (turns more : ℕ) → turns ≡ length rows + more → Reached cfg s bytes rows s2 rest
    → records_from cfg turns s bytes ≡ rows ++ records_from cfg more s2 rest
unfolding Reached records_from
reached-first cfg s s2 bytes rest [] turns more e h = rw (h.0, h.1, e, zero-add more) refl
reached-first cfg s s2 bytes rest (row ∷ rows) zero more e h = absurd (omega arith)
reached-first cfg s s2 bytes rest (row ∷ rows) (suc turns) more e h =
    rw (h.1, h.2) (ap (λ (behind : List (List (List ℕ))). h.0.0 ∷ behind) (reached-first cfg h.0.1 s2 h.0.2 rest rows turns more (omega arith) h.3))

no-records : (cfg : Config) (turns : ℕ) (s : State) (bytes : List ℕ) → next_record cfg s [] [] bytes ≡ None → records_from cfg turns s bytes ≡ []
unfolding records_from
no-records cfg zero s bytes none = refl
no-records cfg (suc turns) s bytes none = rw none refl

reached-records : (cfg : Config) (s2 : State) (bytes rest : List ℕ) (rows : List (List (List ℕ))) → Reached cfg st.StartRecord bytes rows s2 rest
    → records cfg bytes ≡ rows ++ records_from cfg (length bytes + 1 - length rows) s2 rest
reached-records cfg s2 bytes rest rows h =
    let few = reached-short cfg st.StartRecord s2 bytes rest rows refl h in
    reached-first cfg st.StartRecord s2 bytes rest rows (length bytes + 1) (length bytes + 1 - length rows) (omega arith) h

-- all records were read
pub records-all : (cfg : Config) (s2 : State) (bytes rest : List ℕ) (rows : List (List (List ℕ))) → Reached cfg st.StartRecord bytes rows s2 rest → next_record cfg s2 [] [] rest ≡ None → records cfg bytes ≡ rows
records-all cfg s2 bytes rest rows h none =
    reached-records cfg s2 bytes rest rows h ∙ ap (λ (behind : List (List (List ℕ))). rows ++ behind) (no-records cfg (length bytes + 1 - length rows) s2 rest none) ∙ append-nil rows

-- there are at least those that were read
pub records-some : (cfg : Config) (s2 : State) (bytes rest : List ℕ) (rows : List (List (List ℕ))) → Reached cfg st.StartRecord bytes rows s2 rest → length rows ≤ length (records cfg bytes)
records-some cfg s2 bytes rest rows h =
    let split : length (records cfg bytes) ≡ length rows + length (records_from cfg (length bytes + 1 - length rows) s2 rest) =
    ap length (reached-records cfg s2 bytes rest rows h) ∙ length-append rows (records_from cfg (length bytes + 1 - length rows) s2 rest) in
    omega arith
