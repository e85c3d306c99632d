-- Which event a line asks.
use Rattle.std.proofs.Common.{◌≡◌, inl, inr, ℕ, Bool, true, false, cond, IsTrue, List, [], ◌∷◌, ◌++◌, Option, Some, None, append_assoc, append-nil, bytes_eq, codes, unwrap_or, length, refl, sym, ap, subst, ◌∙◌}
use Rattle.std.proofs.lemmas.Bool.{false≢true, true≢false}
use Rattle.std.proofs.lemmas.Option.{none-some, same_Some}
use Rattle.std.proofs.lemmas.Slice.Eq.{bytes_eq-Decides}
use Rattle.std.specs.Int.{bytes_high_first}
use Rattle.input_fields.specs.Fields.{choice_said}
use Rattle.input_lines.specs.Actions.{event_of_action, is_of_operator, is_of_station}
use Rattle.input_lines.specs.OwnerRequests.{act_word, operation_id, request_text}
use Rattle.input_lines.specs.Saying.{AreFields, Says, SaysImpressions}
use Rattle.input_lines.specs.declared.action.Action.{Action}
use Rattle.input_lines.specs.declared.action.Action.TheVariants as action
use Rattle.input_lines.specs.declared.owner_request.OwnerAct.{OwnerAct}
use Rattle.input_lines.specs.declared.owner_request.OwnerAct.TheVariants.{Cancel, Hold}
use Rattle.serve_peers.specs.Entries.{event_of_entry, moment_at}
use Rattle.serve_peers.specs.declared.entry.Entry.{Entry}
use Rattle.serve_peers.specs.declared.line_connection.Side.{Side}
use Rattle.serve_peers.specs.declared.line_connection.Side.TheVariants.{Bound, Operator, Station}
use Rattle.serve_sockets.specs.LinesAsk.{Asks, IsAct, IsWord, LinesAsk, MessagesAsk, OperatorAsks, SaysCount, StationAsks, owner_message, queue_uri}

-- ---- fields

word_is : (one other field : List ℕ) (said : Bool) → choice_said one other field ≡ Some said → IsWord one other field said
word_is one other field said is = by (bytes_eq field one) (bytes_eq field other) refl refl said is
  where
    by : (first second : Bool) → bytes_eq field one ≡ first → bytes_eq field other ≡ second → (b : Bool) → cond first (Some true) (cond second (Some false) None) ≡ Some b → IsWord one other field b
    by true second same differs true told = (bytes_eq-Decides field one).0 same
    by true second same differs false told = absurd (true≢false (same_Some true false told))
    by false true differs same false told = (bytes_eq-Decides field other).0 same
    by false true differs same true told = absurd (false≢true (same_Some false true told))
    by false false differs neither b told = absurd (none-some b told)

count_is : (field : List ℕ) (counted : Option ℕ) → SaysImpressions field counted → SaysCount field (unwrap_or counted 0)
count_is field None is = inl (is, refl)
count_is field (Some count) is = inr is

-- ---- an operator in the place of an owner

is_act : (act : OwnerAct) → IsAct (act_word act) (operation_id act)
is_act Cancel = inl (refl, refl)
is_act Hold = inr (refl, refl)

-- behind the account
last : (account rest end : List ℕ) → (((account ++ []) ++ (rest ++ [])) ++ []) ++ end ≡ account ++ (rest ++ end)
last account rest end =
    ap (λ (l : List ℕ). l ++ end) (append-nil ((account ++ []) ++ (rest ++ [])))
    ∙ append_assoc (account ++ []) (rest ++ []) end
    ∙ ap (λ (l : List ℕ). l ++ ((rest ++ []) ++ end)) (append-nil account)
    ∙ ap (λ (l : List ℕ). account ++ (l ++ end)) (append-nil rest)

-- what stands in front of the account
abbrev front : (operation : ℕ) (account rest : List ℕ) → List ℕ
front operation account rest =
    1 ∷ 1 ∷ 0 ∷ operation ∷ 0 ∷ 0 ∷ 0 ∷ 1 ∷ 1
    ∷ 0x47 ∷ 0 ∷ 18 ∷ codes "attributes-charset" ++ 0 ∷ 5 ∷ codes "utf-8"
    ++ 0x48 ∷ 0 ∷ 27 ∷ codes "attributes-natural-language" ++ 0 ∷ 2 ∷ codes "en"
    ++ 0x45 ∷ 0 ∷ 11 ∷ codes "printer-uri" ++ bytes_high_first 2 (length (queue_uri account))
    ++ codes "ipp://localhost/ipp/print/" ++ rest

abbrev behind_account : (job : ℕ) → List ℕ
behind_account job = 0x21 ∷ 0 ∷ 6 ∷ codes "job-id" ++ 0 ∷ 4 ∷ bytes_high_first 4 job

message_is : (act : OwnerAct) (account : List ℕ) (job : ℕ) → request_text act account job ≡ owner_message (operation_id act) account job
message_is Cancel account job = ap (front 8 account) (last account (behind_account job) (3 ∷ []))
message_is Hold account job = ap (front 12 account) (last account (behind_account job) (3 ∷ []))

-- ---- the words of a line

operator_asks : (fields : List (List ℕ)) (it : Action) → IsTrue (is_of_operator it) → Says fields it → OperatorAsks fields (event_of_action it)
operator_asks fields (action.Open account) may says = says
operator_asks fields (action.Device name on) may says = (says.0, says.1, word_is (codes "on") (codes "off") says.0 on says.2)
operator_asks fields (action.Rate name units) may says = says
operator_asks fields (action.Grant account month pages) may says = says
operator_asks fields (action.Ipp account body) may says = absurd (false≢true may)
operator_asks fields (action.Release device account job password impressions) may says = absurd (false≢true may)
operator_asks fields (action.Start device account job) may says = absurd (false≢true may)
operator_asks fields (action.Settle device account job impressions failed) may says = absurd (false≢true may)
operator_asks fields (action.Owner request) may says =
    (act_word request.act, says.0, operation_id request.act, request.job, says.1, is_act request.act, says.2, message_is request.act request.account request.job)

station_asks : (fields : List (List ℕ)) (it : Action) → IsTrue (is_of_station it) → Says fields it → StationAsks fields (event_of_action it)
station_asks fields (action.Release device account job password impressions) may says =
    (says.0, says.1, says.2, says.3, says.4, says.5, count_is says.2 impressions says.6)
station_asks fields (action.Start device account job) may says = says
station_asks fields (action.Settle device account job impressions failed) may says =
    (says.0, says.1, says.2, says.3, says.4, says.5, word_is (codes "failed") (codes "done") says.2 failed says.6)
station_asks fields (action.Open account) may says = absurd (false≢true may)
station_asks fields (action.Device name on) may says = absurd (false≢true may)
station_asks fields (action.Rate name units) may says = absurd (false≢true may)
station_asks fields (action.Grant account month pages) may says = absurd (false≢true may)
station_asks fields (action.Ipp account body) may says = absurd (false≢true may)
station_asks fields (action.Owner request) may says = absurd (false≢true may)

-- ---- the laws

abbrev LineAsks : (side : Side) (moment : ℕ) (line : List ℕ) → Entry → Type 0
LineAsks side moment line asked = (moment_at asked ≡ moment) × ((fields : List (List ℕ)) × AreFields line fields × Asks side fields (event_of_entry asked))

pub lines_ask : LinesAsk
lines_ask Operator moment line asked is = subst (LineAsks Operator moment line) (sym is.1) (is.2.1, (is.3.0, is.3.1, operator_asks is.3.0 is.0.action is.2.0 is.3.2))
lines_ask Station moment line asked is = subst (LineAsks Station moment line) (sym is.1) (is.2.1, (is.3.0, is.3.1, station_asks is.3.0 is.0.action is.2.0 is.3.2))
lines_ask (Bound names) moment line asked is = subst (LineAsks (Bound names) moment line) (sym is.1) (is.2.1, (is.3.0, is.3.1, station_asks is.3.0 is.0.action is.2.0 is.3.2))

pub messages_ask : MessagesAsk
messages_ask moment account body = (refl, refl)
