-- What was printed of answers, one after another.
use Rattle.std.proofs.Common.{◌≡◌, ℕ, ◌+◌, All, List, [], ◌∷◌, ◌++◌, codes, length, refl, ap, sym, subst, ◌∙◌, append_assoc, append-nil, add-zero, arith, length-append}
use Rattle.std.specs.Prelude.{None, Some, IfSome}
use Rattle.std.specs.List.{flat_map}
use Rattle.std.specs.Io.KnownBytes.{Appends, Consumes, Keeps, prepend_known}
use Rattle.std.proofs.KnownBytes.{Appends-kept, Appends-nil, Appends-trans, Consumes-nil, Consumes-trans}
use Rattle.std.proofs.lemmas.Grind.{flat_map-append}
use Rattle.std.proofs.lemmas.List.Elements.{All-append, All-cons, All-nil}
use Rattle.std.specs.Fmt.{option_append}
use Rattle.client_lines.specs.declared.answer.Answer.{Answer}
use Rattle.client_lines.specs.declared.answer.Answer.TheVariants as answer_is
use Rattle.client_lines.specs.declared.outcome.Outcome.{Outcome}
use Rattle.client_lines.specs.ProofAnswering.{AnsweredOnce, HearsDocument, PrintsAnswer, SentAndAnswered, TakesDocuments, TakesLines}
use Rattle.client_lines.specs.Answers.{answer_said}
use Rattle.client_lines.specs.Outcomes.{nothing_sent, outcome_after}
use Rattle.client_lines.specs.Words.{AsksDocumentsOf}
use Rattle.client_lines.specs.Replies.{Answered, Document, IsDocumentOf, IsOfJob, IsReply, IsText, asked_of, Known, Reply, Shows, all_printed, document_heard, document_printed, documents_printed, documents_said, heard, lines_said, outcome_from, printed, printed_as, whole_line, whole_lines}

-- a line that was printed, and then what is shown after it
pub printed-shown : (a b c d : Known) (head : List ℕ) (known : Known) → Appends a b head
    → Appends b c (codes "\n") → IfSome known (Appends c d)
    → IfSome (prepend_known (head ++ codes "\n") known) (Appends a d)
printed-shown a b c d head None first feed then = tt
printed-shown a b c d head (Some text) first feed then =
    Appends-trans a c d (head ++ codes "\n") text (Appends-trans a b c head (codes "\n") first feed) then

printed-both : (a b c : Known) (known more : Known) → IfSome known (Appends a b)
    → IfSome more (Appends b c) → IfSome (option_append known more) (Appends a c)
printed-both a b c None more first second = tt
printed-both a b c (Some x) None first second = tt
printed-both a b c (Some x) (Some y) first second = Appends-trans a b c x y first second

option_append-nil : (known : Known) → option_append known (Some []) ≡ option_append (Some []) known
option_append-nil None = refl
option_append-nil (Some text) = ap Some (append-nil text)

option_append-assoc : (a b c : Known)
    → option_append (option_append a b) c ≡ option_append a (option_append b c)
option_append-assoc None b c = refl
option_append-assoc (Some x) None c = refl
option_append-assoc (Some x) (Some y) None = refl
option_append-assoc (Some x) (Some y) (Some z) = ap Some (append_assoc x y z)

flat_map-more : {X : Type 0} (f : X → List ℕ) (xs : List X) (last : X)
    → flat_map f (xs ++ last ∷ []) ≡ flat_map f xs ++ f last
flat_map-more f xs last =
    flat_map-append f xs (last ∷ []) ∙ ap (λ l. flat_map f xs ++ l) (append-nil (f last))

documents_printed-more : (shown : Shows) (account : List ℕ) (job number : ℕ)
    → (documents : List Document) (last : Document)
    → documents_printed shown account job number (documents ++ last ∷ [])
    ≡ option_append (documents_printed shown account job number documents)
    (document_printed shown account job (number + length documents) last)
documents_printed-more shown account job number [] last =
    option_append-nil (document_printed shown account job number last)
    ∙ ap (λ n. option_append (Some []) (document_printed shown account job n last)) (sym (add-zero number))
documents_printed-more shown account job number (first ∷ rest) last =
    let same : (number + 1) + length rest ≡ number + length (first ∷ rest) = omega arith in
    ap (option_append (document_printed shown account job number first))
    (documents_printed-more shown account job (number + 1) rest last
    ∙ ap (λ n. option_append (documents_printed shown account job (number + 1) rest)
    (document_printed shown account job n last)) same)
    ∙ sym (option_append-assoc (document_printed shown account job number first)
    (documents_printed shown account job (number + 1) rest)
    (document_printed shown account job (number + length (first ∷ rest)) last))

pub TakesDocuments-more : (shown : Shows) (ha hb hc pa pb pc : Known) (account : List ℕ)
    → (job count : ℕ) → TakesDocuments shown ha hb pa pb account job count
    → (now : Shows) → now ≡ shown → HearsDocument now hb hc pb pc account job (count + 1)
    → TakesDocuments shown ha hc pa pc account job (count + 1)
TakesDocuments-more shown ha hb hc pa pb pc account job count done now same taken =
    let next = subst (λ s. HearsDocument s hb hc pb pc account job (count + 1)) same taken in
    let documents = done.0 in
    let last = next.0 in
    let long : length (documents ++ last ∷ []) ≡ count + 1 =
    length-append documents (last ∷ []) ∙ ap (λ n. n + 1) done.1 in
    let number : count + 1 ≡ 1 + length documents = omega (arith, done.1) in
    let more = documents_printed-more shown account job 1 documents last in
    let shows = subst (λ n. IfSome (document_printed shown account job n last) (Appends pb pc)) number next.2 in (
      documents ++ last ∷ [],
      long,
      subst (Consumes ha hc) (sym (flat_map-more document_heard documents last))
          (Consumes-trans ha hb hc (flat_map document_heard documents) (document_heard last) done.2 next.1),
      subst (λ o. IfSome o (Appends pa pc)) (sym more)
          (printed-both pa pb pc (documents_printed shown account job 1 documents)
          (document_printed shown account job (1 + length documents) last) done.3 shows),
      All-append (IsDocumentOf job) documents (last ∷ []) done.4
          (All-cons (IsDocumentOf job) last [] next.3 (All-nil (IsDocumentOf job))),
    )

pub TakesLines-none : (h p : Known) → TakesLines h h p p 0
TakesLines-none h p = record {
  lines = [];
  line_count = refl;
  each_text = All-nil IsText;
  heard_whole = Consumes-nil h;
  printed_whole = Appends-nil p;
}

pub TakesLines-more : (ha hb hc pa pb pc : Known) (count : ℕ) (line : List ℕ)
    → TakesLines ha hb pa pb count → IsText line → Consumes hb hc (line ++ codes "\n")
    → Appends pb pc (line ++ codes "\n") → TakesLines ha hc pa pc (count + 1)
TakesLines-more ha hb hc pa pb pc count line done text heard printed =
    let lines = done.lines in record {
      lines = lines ++ line ∷ [];
      line_count = length-append lines (line ∷ []) ∙ ap (λ n. n + 1) done.line_count;
      each_text = All-append IsText lines (line ∷ []) done.each_text
          (All-cons IsText line [] text (All-nil IsText));
      heard_whole = subst (Consumes ha hc) (sym (flat_map-more whole_line lines line))
          (Consumes-trans ha hb hc (flat_map whole_line lines) (whole_line line) done.heard_whole heard);
      printed_whole = subst (Appends pa pc) (sym (flat_map-more whole_line lines line))
          (Appends-trans pa pb pc (flat_map whole_line lines) (whole_line line) done.printed_whole printed);
    }

-- an answer that is no documents is its lines
pub printed_as-lines : (says : Answer) (documents lines : Known)
    → ((count : ℕ) → says ≡ answer_is.Documents count → ⊥) → printed_as says documents lines ≡ lines
printed_as-lines answer_is.Failed documents lines other = refl
printed_as-lines answer_is.BadLine documents lines other = refl
printed_as-lines (answer_is.Documents count) documents lines other = absurd (other count refl)
printed_as-lines (answer_is.Lines count) documents lines other = refl
printed_as-lines answer_is.Told documents lines other = refl
printed_as-lines answer_is.Refused documents lines other = refl

pub documents_said-none : (says : Answer)
    → ((count : ℕ) → says ≡ answer_is.Documents count → ⊥) → 0 ≡ documents_said says
documents_said-none answer_is.Failed other = refl
documents_said-none answer_is.BadLine other = refl
documents_said-none (answer_is.Documents count) other = absurd (other count refl)
documents_said-none (answer_is.Lines count) other = refl
documents_said-none answer_is.Told other = refl
documents_said-none answer_is.Refused other = refl

all_printed-more : (shown : Shows) (replies : List Reply) (last : Reply)
    → all_printed shown (replies ++ last ∷ [])
    ≡ option_append (all_printed shown replies) (printed shown last)
all_printed-more shown [] last = option_append-nil (printed shown last)
all_printed-more shown (first ∷ rest) last =
    ap (option_append (printed shown first)) (all_printed-more shown rest last)
    ∙ sym (option_append-assoc (printed shown first) (all_printed shown rest) (printed shown last))

outcome_from-more : (number : ℕ) (outcome : Outcome) (replies : List Reply) (last : Reply)
    → outcome_from number outcome (replies ++ last ∷ [])
    ≡ outcome_after (outcome_from number outcome replies) (number + length replies) last.says
outcome_from-more number outcome [] last =
    ap (λ n. outcome_after outcome n last.says) (sym (add-zero number))
outcome_from-more number outcome (first ∷ rest) last =
    let same : (number + 1) + length rest ≡ number + length (first ∷ rest) = omega arith in
    outcome_from-more (number + 1) (outcome_after outcome number first.says) rest last
    ∙ ap (λ n. outcome_after (outcome_from (number + 1) (outcome_after outcome number first.says) rest)
    n last.says) same

pub Answered-none : (shown : Shows) (s h p : Known)
    → (none : Answered shown s s h h p p nothing_sent) × (1 ≡ length none.replies + 1)
Answered-none shown s h p =
    let none : Answered shown s s h h p p nothing_sent = record {
      replies = [];
      said = All-nil IsReply;
      sent_all = Appends-nil s;
      heard_all = Consumes-nil h;
      printed_all = Appends-nil p;
      came_to = refl;
    } in
    (none, refl)

pub Answered-more : (shown : Shows) (sa sb sc ha hb hc pa pb pc : Known) (outcome : Outcome)
    → (answer : Answer) (number : ℕ) (done : Answered shown sa sb ha hb pa pb outcome)
    → number ≡ length done.replies + 1 → (now : Shows) → now ≡ shown
    → SentAndAnswered now sb sc hb hc pb pc answer
    → (after : Outcome) → after ≡ outcome_after outcome number answer
    → (more : Answered shown sa sc ha hc pa pc after)
    × (number + 1 ≡ length more.replies + 1)
Answered-more shown sa sb sc ha hb hc pa pb pc outcome answer number done count now same answered after is =
    let both = subst (λ s. SentAndAnswered s sb sc hb hc pb pc answer) same answered in
    let next = both.2 in
    let sent = subst (λ asked. Appends sb sc (asked ++ codes "\n")) (sym next.asks) both.1 in
    let replies = done.replies in
    let last = next.reply in
    let place : number ≡ 1 + length replies = omega (arith, count) in
    let one : All IsReply (last ∷ []) = All-cons IsReply last [] next.said (All-nil IsReply) in
    let more : Answered shown sa sc ha hc pa pc after = record {
      replies = replies ++ last ∷ [];
      said = All-append IsReply replies (last ∷ []) done.said one;
      sent_all = subst (Appends sa sc) (sym (flat_map-more asked_of replies last))
          (Appends-trans sa sb sc (flat_map asked_of replies) (asked_of last) done.sent_all sent);
      heard_all = subst (Consumes ha hc) (sym (flat_map-more heard replies last))
          (Consumes-trans ha hb hc (flat_map heard replies) (heard last) done.heard_all next.heard_whole);
      printed_all = subst (λ o. IfSome o (Appends pa pc)) (sym (all_printed-more shown replies last))
          (printed-both pa pb pc (all_printed shown replies) (printed shown last) done.printed_all next.printed_whole);
      came_to = is ∙ ap (λ o. outcome_after o number answer) done.came_to
          ∙ ap (outcome_after (outcome_from 1 nothing_sent replies) number) next.came_to
          ∙ ap (λ n. outcome_after (outcome_from 1 nothing_sent replies) n last.says) place
          ∙ sym (outcome_from-more 1 nothing_sent replies last);
    } in
    let long : length (replies ++ last ∷ []) ≡ length replies + 1 = length-append replies (last ∷ []) in
    (more, omega (arith, count, long))

-- and needs no line that asks for them
pub IsOfJob-other : (says : Answer) → ((count : ℕ) → says ≡ answer_is.Documents count → ⊥)
    → (asked account : List ℕ) (job : ℕ) → IsOfJob says asked account job
IsOfJob-other answer_is.Failed other asked account job = tt
IsOfJob-other answer_is.BadLine other asked account job = tt
IsOfJob-other (answer_is.Documents count) other asked account job = absurd (other count refl)
IsOfJob-other (answer_is.Lines count) other asked account job = tt
IsOfJob-other answer_is.Told other asked account job = tt
IsOfJob-other answer_is.Refused other asked account job = tt

pub PrintsAnswer-lines : (shown : Shows) (ha hb pa pb pc : Known) (asked text : List ℕ)
    → (says : Answer) → ((count : ℕ) → says ≡ answer_is.Documents count → ⊥)
    → Appends pa pb (text ++ codes "\n") → TakesLines ha hb pb pc (lines_said says)
    → PrintsAnswer shown ha hb pa pc asked text says
PrintsAnswer-lines shown ha hb pa pb pc asked text says other first taken = record {
  lines = taken.lines;
  line_count = taken.line_count;
  each_text = taken.each_text;
  account = [];
  job = 0;
  of_job = IsOfJob-other says other asked [] 0;
  documents = [];
  count = documents_said-none says other;
  each = All-nil (IsDocumentOf 0);
  heard_rest = subst (Consumes ha hb) (sym (append-nil (flat_map whole_line taken.lines))) taken.heard_whole;
  printed_whole = subst (λ o. IfSome o (Appends pa pc))
      (sym (printed_as-lines says (documents_printed shown [] 0 1 []) (Some (whole_lines text taken.lines)) other))
      (Appends-trans pa pb pc (whole_line text) (flat_map whole_line taken.lines) first taken.printed_whole);
}

pub PrintsAnswer-documents : (shown : Shows) (ha hb pa pb : Known) (asked text : List ℕ) (count : ℕ)
    → (account : List ℕ) × (job : ℕ) × AsksDocumentsOf asked account job
    × TakesDocuments shown ha hb pa pb account job count
    → PrintsAnswer shown ha hb pa pb asked text (answer_is.Documents count)
PrintsAnswer-documents shown ha hb pa pb asked text count taken = record {
  lines = [];
  line_count = refl;
  each_text = All-nil IsText;
  account = taken.0;
  job = taken.1;
  of_job = taken.2;
  documents = taken.3.0;
  count = taken.3.1;
  each = taken.3.4;
  heard_rest = taken.3.2;
  printed_whole = taken.3.3;
}

printed-kept : (a b c : Known) (known : Known) → IfSome known (Appends a b) → Keeps b c
    → IfSome known (Appends a c)
printed-kept a b c None prints kept = tt
printed-kept a b c (Some text) prints kept = Appends-kept a b c text prints kept

-- what was printed is still there
pub AnsweredOnce-kept : (shown : Shows) (ha hb pa pb pc : Known) (asked : List ℕ) (says : Answer)
    → AnsweredOnce shown ha hb pa pb asked says → Keeps pb pc
    → AnsweredOnce shown ha hb pa pc asked says
AnsweredOnce-kept shown ha hb pa pb pc asked says once kept = record {
  reply = once.reply;
  asks = once.asks;
  said = once.said;
  heard_whole = once.heard_whole;
  printed_whole = printed-kept pa pb pc (printed shown once.reply) once.printed_whole kept;
  came_to = once.came_to;
}

pub AnsweredOnce-of : (shown : Shows) (ha hb hc pa pb : Known) (asked line : List ℕ) (says : Answer)
    → answer_said line ≡ Some says → Consumes ha hb (line ++ codes "\n")
    → PrintsAnswer shown hb hc pa pb asked line says → AnsweredOnce shown ha hc pa pb asked says
AnsweredOnce-of shown ha hb hc pa pb asked line says said first prints = record {
  reply = record {
    asked = asked;
    line = line;
    says = says;
    lines = prints.lines;
    account = prints.account;
    job = prints.job;
    documents = prints.documents;
  };
  asks = refl;
  said = record {
    said = said;
    line_count = prints.line_count;
    each_text = prints.each_text;
    count = prints.count;
    of_job = prints.of_job;
    each = prints.each;
  };
  heard_whole = subst (Consumes ha hc)
      (sym (append_assoc (whole_line line) (flat_map whole_line prints.lines) (flat_map document_heard prints.documents)))
      (Consumes-trans ha hb hc (whole_line line)
      (flat_map whole_line prints.lines ++ flat_map document_heard prints.documents) first prints.heard_rest);
  printed_whole = prints.printed_whole;
  came_to = refl;
}
