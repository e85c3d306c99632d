-- Rule: Whole responses to requests: the reply, its groups of jobs or of the printer, and the end
-- tag (RFC 8010 section 3.1.1, RFC 8011 section 4.1.1).
use Rattle.std.specs.Prelude.{ℕ, Bool, List, [], ◌∷◌, ◌++◌, map, Option, Some, None}
use Rattle.std.specs.List.{flat_map}
use Rattle.ipp_coding.specs.Tags.{end_tag}
use Rattle.ipp_coding.specs.declared.message.Header.{Header}
use Rattle.ipp_coding.specs.Plain.{PlainAttribute, PlainGroup}
use Rattle.ipp_coding.specs.Spelling.{group_spelling}
use Rattle.account_rules.specs.declared.job.Job.{Job}
use Rattle.account_rules.specs.declared.refusal.Refusal.{Refusal}
use Rattle.account_replies.specs.Places.{PlainPlace}
use Rattle.account_replies.specs.JobAttributes.{job_group}
use Rattle.account_replies.specs.ProofJobPlaces.{selected_group}
use Rattle.account_replies.specs.Replies.{reply_text}
use Rattle.account_replies.specs.Words.{word_text}

abbrev pub response :
    (request : Header) (status : ℕ) (text : Option (List ℕ)) (unsupported : List PlainAttribute)
    (groups : List PlainGroup) →
    List ℕ
response request status text unsupported groups =
    (reply_text request status text unsupported ++ flat_map group_spelling groups) ++ end_tag ∷ []

-- the status and the text of the word that tell why (RFC 8011 section 4.1.6)
abbrev pub refused_text :
    (request : Header) (refusal : Refusal) (unsupported : List PlainAttribute) →
    List ℕ
refused_text request refusal unsupported =
    response request refusal.status (Some (word_text refusal.word)) unsupported []

-- successful-ok, and successful-ok-ignored-or-substituted-attributes where some attributes are not
-- supported (RFC 8011 sections B.1.2.1 and B.1.2.2)
abbrev pub success_status : (unsupported : List PlainAttribute) → ℕ
success_status [] = 0x0000
success_status (first ∷ further) = 0x0001

abbrev pub done_text :
    (request : Header) (unsupported : List PlainAttribute) (groups : List PlainGroup) →
    List ℕ
done_text request unsupported groups =
    response request (success_status unsupported) None unsupported groups

-- a group for each job, with the attributes that are wanted (RFC 8011 section 4.2.6.2)
abbrev pub job_groups :
    (at : PlainPlace) (jobs : List Job) (wanted : Option (List (List ℕ))) →
    List PlainGroup
job_groups at jobs wanted = map (λ (job : Job). job_group at job wanted) jobs

-- the same, of attributes that were picked before, by a flag for each
abbrev pub selected_groups :
    (at : PlainPlace) (jobs : List Job) (flags : List Bool) →
    List PlainGroup
selected_groups at jobs flags = map (λ (job : Job). selected_group at job flags) jobs
