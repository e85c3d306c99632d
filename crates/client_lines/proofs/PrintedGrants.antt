-- What was printed of the answers to grants, one after another.
use Rattle.std.proofs.Common.{◌≡◌, ℕ, ◌+◌, All, List, [], ◌∷◌, ◌++◌, codes, length, refl, ap, sym, subst, ◌∙◌, append_assoc, append-nil, add-zero, arith, length-append}
use Rattle.std.specs.Prelude.{None, Some, decimal}
use Rattle.std.specs.List.{flat_map}
use Rattle.std.specs.Io.KnownBytes.{Appends, Consumes}
use Rattle.std.proofs.KnownBytes.{Appends-nil, Appends-trans, Consumes-nil, Consumes-trans}
use Rattle.std.proofs.lemmas.Grind.{flat_map-append}
use Rattle.std.proofs.lemmas.List.{map-append}
use Rattle.std.proofs.lemmas.List.Elements.{All-append, All-cons, All-nil}
use Rattle.input_fields.specs.declared.grant_line.GrantLine.{GrantLine}
use Rattle.input_fields.specs.declared.grant_line.GrantLine.TheVariants.{Good, Bad}
use Rattle.client_lines.specs.declared.answer.Answer.{Answer}
use Rattle.client_lines.specs.declared.answer.Answer.TheVariants.{Refused}
use Rattle.client_lines.specs.ProofAnswering.{GrantAnswered, HearsResult}
use Rattle.client_lines.specs.Grants.{line_asked}
use Rattle.client_lines.specs.declared.outcome.Outcome.{Outcome}
use Rattle.client_lines.specs.Outcomes.{nothing_sent, outcome_after}
use Rattle.client_lines.specs.GrantReplies.{Granted, GrantsAnswered, IsGranted, granted_heard, granted_outcome, granted_printed, line_heard, line_printed}
use Rattle.client_lines.specs.Replies.{Known}

granted_printed-more : (number : ℕ) (all : List Granted) (last : Granted)
    → granted_printed number (all ++ last ∷ [])
    ≡ granted_printed number all ++ line_printed (number + length all) last.asked last.line
granted_printed-more number [] last =
    append-nil (line_printed number last.asked last.line)
    ∙ ap (λ n. line_printed n last.asked last.line) (sym (add-zero number))
granted_printed-more number (first ∷ rest) last =
    let same : (number + 1) + length rest ≡ number + length (first ∷ rest) = omega arith in
    let head = line_printed number first.asked first.line in
    let behind = granted_printed (number + 1) rest in
    ap (λ l. head ++ l) (granted_printed-more (number + 1) rest last
    ∙ ap (λ n. behind ++ line_printed n last.asked last.line) same)
    ∙ sym (append_assoc head behind (line_printed (number + length (first ∷ rest)) last.asked last.line))

granted_outcome-more : (number : ℕ) (outcome : Outcome) (all : List Granted) (last : Granted)
    → granted_outcome number outcome (all ++ last ∷ [])
    ≡ outcome_after (granted_outcome number outcome all) (number + length all) last.says
granted_outcome-more number outcome [] last =
    ap (λ n. outcome_after outcome n last.says) (sym (add-zero number))
granted_outcome-more number outcome (first ∷ rest) last =
    let same : (number + 1) + length rest ≡ number + length (first ∷ rest) = omega arith in
    let begun = outcome_after outcome number first.says in
    granted_outcome-more (number + 1) begun rest last
    ∙ ap (λ n. outcome_after (granted_outcome (number + 1) begun rest) n last.says) same

pub GrantsAnswered-none : (h p : Known)
    → (none : GrantsAnswered [] h h p p nothing_sent) × (0 ≡ length none.all)
GrantsAnswered-none h p =
    let none : GrantsAnswered [] h h p p nothing_sent = record {
      all = [];
      asked = refl;
      said = All-nil IsGranted;
      heard = Consumes-nil h;
      printed = Appends-nil p;
      came_to = refl;
    } in
    (none, refl)

pub GrantsAnswered-more : (records more : List GrantLine) (asked : GrantLine) (ha hb hc pa pb pc : Known)
    → (outcome after : Outcome) (says : Answer) (index : ℕ)
    → (done : GrantsAnswered records ha hb pa pb outcome) → index ≡ length done.all
    → GrantAnswered asked (index + 1) hb hc pb pc says
    → after ≡ outcome_after outcome (index + 1) says → more ≡ records ++ asked ∷ []
    → (next : GrantsAnswered more ha hc pa pc after) × (index + 1 ≡ length next.all)
GrantsAnswered-more records more asked ha hb hc pa pb pc outcome after says index done count one is longer =
    let all = done.all in
    let last : Granted = record { asked = asked; line = one.line; says = says } in
    let place : index + 1 ≡ 1 + length all = omega (arith, count) in
    let single : All IsGranted (last ∷ []) = All-cons IsGranted last [] one.said (All-nil IsGranted) in
    let next : GrantsAnswered more ha hc pa pc after = record {
      all = all ++ last ∷ [];
      asked = map-append (λ granted. granted.asked) all (last ∷ [])
          ∙ ap (λ l. l ++ asked ∷ []) done.asked ∙ sym longer;
      said = All-append IsGranted all (last ∷ []) done.said single;
      heard = subst (Consumes ha hc)
          (sym (flat_map-append granted_heard all (last ∷ [])
          ∙ ap (λ l. flat_map granted_heard all ++ l) (append-nil (line_heard asked one.line))))
          (Consumes-trans ha hb hc (flat_map granted_heard all) (line_heard asked one.line) done.heard one.heard);
      printed = subst (Appends pa pc)
          (ap (λ n. granted_printed 1 all ++ line_printed n asked one.line) place
          ∙ sym (granted_printed-more 1 all last))
          (Appends-trans pa pb pc (granted_printed 1 all) (line_printed (index + 1) asked one.line) done.printed one.printed);
      came_to = is ∙ ap (λ o. outcome_after o (index + 1) says) done.came_to
          ∙ ap (λ n. outcome_after (granted_outcome 1 nothing_sent all) n says) place
          ∙ sym (granted_outcome-more 1 nothing_sent all last);
    } in
    let long : length (all ++ last ∷ []) ≡ length all + 1 = length-append all (last ∷ []) in
    (next, omega (arith, count, long))

pub GrantAnswered-good : (asked : GrantLine) (sent : List ℕ) (number : ℕ) (ha hb pa pb : Known)
    → (says : Answer) → Some sent ≡ line_asked asked → HearsResult number ha hb pa pb says
    → GrantAnswered asked number ha hb pa pb says
GrantAnswered-good (Good account month pages) sent number ha hb pa pb says good hears =
    record { line = hears.0; said = hears.1; heard = hears.2; printed = hears.3 }
GrantAnswered-good (Bad bad) sent number ha hb pa pb says good hears = cc

pub GrantAnswered-bad : (asked : GrantLine) (number : ℕ) (h pa pb : Known)
    → None ≡ line_asked asked → Appends pa pb (decimal number ++ codes " bad\n")
    → GrantAnswered asked number h h pa pb Refused
GrantAnswered-bad (Good account month pages) number h pa pb bad prints = cc
GrantAnswered-bad (Bad place) number h pa pb bad prints =
    record { line = []; said = refl; heard = Consumes-nil h; printed = prints }
