use Rattle.std.proofs.Common.{◌≡◌, ◌⊎◌, ℕ, List, Option, refl, inl, inr, string_bytes}
use Rattle.std.specs.Prelude.{codes}
use Rattle.case_maker.specs.declared.exchange.Held.{Held}
use Rattle.case_maker.specs.declared.exchange.Exchange.{Exchange}
use Rattle.case_maker.specs.declared.exchange.Exchange.TheVariants.{Create, Miss, Update, Get, Delete, List as ListAll}
use Rattle.case_maker.specs.Bodies.{asked_text}
use Rattle.case_maker.specs.Event.{asked_member, wording_of}
use Rattle.case_maker.proofs.Chains.{appended}
use Rattle.case_maker.proofs.event.append_asked_member.Goals as goal

asks : (exchange : Exchange) (name number revision : ℕ) (objects : List (Option Held)) → ((held : Held) × (exchange ≡ Create held)) ⊎ ((held : Held) × (exchange ≡ Update held))
    → (wording_of exchange name number revision objects).asked ≡ asked_member (asked_text name number)
asks (Create held) name number revision objects is = refl
asks (Update held) name number revision objects is = refl
asks Miss name number revision objects is = elim is [ inl (held, e) ↦ cc | inr (held, e) ↦ cc ]
asks (Get other) name number revision objects is = elim is [ inl (held, e) ↦ cc | inr (held, e) ↦ cc ]
asks (Delete other) name number revision objects is = elim is [ inl (held, e) ↦ cc | inr (held, e) ↦ cc ]
asks (ListAll other) name number revision objects is = elim is [ inl (held, e) ↦ cc | inr (held, e) ↦ cc ]

pub returns-in_ok-append_asked-in-Create : goal.returns-in_ok-append_asked-in-Create
returns-in_ok-append_asked-in-Create c =
    let event = c.args.event.now in
    rw (asks event.exchange event.name event.number event.revision event.objects.now c.in-Create.is)
    (appended (string_bytes c.append_asked.new.log) (string_bytes c.push_str.new.self) (string_bytes c.args.log.now) (codes ",\"requestObject\":") (asked_text event.name event.number)
    c.in_ok-push_str-in-Create.ensures.bytes c.in_ok-append_asked-in-Create.ensures)
