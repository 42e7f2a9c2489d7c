pub mod Agreement
pub mod Lists
pub mod AgreementTests
