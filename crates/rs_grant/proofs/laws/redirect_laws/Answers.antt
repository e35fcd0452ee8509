use Rattle.rs_grant.specs.Redirects.{redirect_fields}
use Rattle.rs_grant.proofs.AddressBack.{address_back}
use Rattle.rs_grant.proofs.RedirectLemmas.{redirect_back}
use Rattle.rs_grant.proofs.laws.redirect_laws.Goals as goal

pub returns : goal.returns
returns c = record {
  address = λ url outcome state valid is. address_back url (redirect_fields outcome state) valid is;
  back = redirect_back;
}
