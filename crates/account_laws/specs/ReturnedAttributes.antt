-- What goes back with the refusal of a request as it is read (RFC 8011 section 4.1.7).
use Rattle.std.specs.Prelude.{◌≡◌, ℕ, ◌+◌, ◌*◌, ◌==◌, List, [], slice_index, Err, MatchBool}
use Rattle.ipp_coding.specs.Plain.{PlainAttribute, PlainMessage}
use Rattle.ipp_coding.specs.Spelling.{Spells}
use Rattle.account_asks.specs.Asks.{PlainRefusal, ask_of}
use Rattle.account_laws.specs.AsksLieWithin.{AreBytes}
use Rattle.account_laws.specs.SpelledTemplates.{GoBack}
use Rattle.account_laws.specs.SpelledAttributes.{AreOfJob}
use Rattle.account_rules.specs.declared.refusal.Word.{Word}
use Rattle.account_rules.specs.declared.refusal.Word.TheVariants.{DocumentTooLarge, Template}

-- Of the message that the bytes spell, those attributes of the first group 0x02 go back that are
-- not supported.
pub record AreSentBack (body : List ℕ) (back : List PlainAttribute) : Type 0 where
  pub message : PlainMessage
  pub spells : Spells message body
  pub template : List PlainAttribute
  pub is_template : AreOfJob message.groups template
  pub go_back : GoBack [] template back

-- the operation-id: the third and the fourth byte (RFC 8010 section 3.1.1)
abbrev pub operation_id_of : (body : List ℕ) → ℕ
operation_id_of body = slice_index body 2 * 256 + slice_index body 3

-- They go back where the request is refused for them, or for its document, which is looked at after
-- them; a Send-Document, 0x06, describes no job. With any other refusal nothing goes back.
abbrev pub GoesWith : (body : List ℕ) → Word → (back : List PlainAttribute) → Type 0
GoesWith body Template back = AreSentBack body back
GoesWith body DocumentTooLarge back =
    MatchBool (operation_id_of body == 0x06) (back ≡ []) (AreSentBack body back)
GoesWith body _ back = back ≡ []

abbrev pub RefusalsSendBack : Type 0
RefusalsSendBack =
    (account body : List ℕ) (refused : PlainRefusal)
    → AreBytes body → ask_of account body ≡ Err refused
    → GoesWith body refused.refusal.word refused.unsupported
