pub mod FewForms
pub mod FewLines
pub mod FewLaws
pub mod Laws
